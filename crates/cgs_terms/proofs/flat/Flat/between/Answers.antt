use Rattle.std.proofs.Common.{◌-◌, take, drop, arith}
use Rattle.cgs_terms.proofs.FlatLemmas.{FlatFor, count_of, part_fits, flat_part}
use Rattle.cgs_terms.proofs.flat.Flat.between.Goals as goal
use Rattle.cgs_terms.proofs.flat.Flat.between.Goals.{After-part}

pub coefficients_part-requires-clause-within : goal.coefficients_part-requires-clause-within
coefficients_part-requires-clause-within c =
    let n = count_of c.self.inside.places c.self.inside.coefficients.now c.self.inside.exponents.now c.args.self.now c.self.view_is in
    omega (arith, n, c.requires.within)

pub part-requires-clause-within : goal.part-requires-clause-within
part-requires-clause-within c =
    part_fits c.self.inside.places c.args.to c.self.inside.coefficients.now c.self.inside.exponents.now c.args.self.now
    c.self.view_is c.self.invariant c.requires.within

parts : (c : After-part) → FlatFor c.self.inside.places c.coefficients_part.result.now c.part.result.now
    (take (c.args.to - c.args.from) (drop c.args.from c.args.self.now))
parts c =
    flat_part c.self.inside.places c.args.from (c.args.to - c.args.from) c.self.inside.coefficients.now c.self.inside.exponents.now
    c.coefficients_part.result.now c.part.result.now c.args.self.now c.self.view_is c.self.invariant c.coefficients_part.ensures c.part.ensures

pub invariant_of-result : goal.invariant_of-result
invariant_of-result c = (parts (goal.at.invariant_of-result c).After-part).flat

pub returns : goal.returns
returns c = (parts (goal.at.returns c).After-part).terms
