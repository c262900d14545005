use Rattle.std.proofs.Common.{arith}
use Rattle.cgs_terms.proofs.FlatLemmas.{count_of, with_set}
use Rattle.cgs_terms.proofs.list.TermList.set_coefficient.Goals as goal

pub index_mut-requires : goal.index_mut-requires
index_mut-requires c =
    let n = count_of c.self.inside.places c.self.inside.coefficients.items c.self.inside.exponents.items c.args.self.now c.self.view_is in
    omega (arith, n, c.requires, c.self.inside.coefficients.ok.0)

pub returns : goal.returns
returns c =
    with_set c.self.inside.places c.args.i c.args.c c.self.inside.coefficients.items c.self.inside.exponents.items c.args.self.now c.self.view_is c.requires
