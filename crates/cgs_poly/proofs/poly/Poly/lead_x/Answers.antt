use Rattle.std.proofs.Common.{arith, sym}
use Rattle.std.proofs.lemmas.List.{length-take-le}
use Rattle.cgs_poly.specs.Polynomial.{term}
use Rattle.cgs_poly.proofs.PlaceLemmas.{canonical_at}
use Rattle.cgs_poly.proofs.poly.Poly.lead_x.Goals as goal

pub slice_bounds-result-end : goal.slice_bounds-result-end
slice_bounds-result-end c =
    let x = canonical_at c.args.ring.now 0 c.args.self.now (term c.term.result.coefficient c.term.result.exponents.now)
    c.requires.poly.canonical c.term.ensures in
    sym (length-take-le c.args.ring.now.variables c.term.result.exponents.now (omega (arith, x.places)))
