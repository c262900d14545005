use Rattle.std.proofs.Common.{ap, subst}
use Rattle.cgs_poly.specs.Polynomial.{ArePolys}
use Rattle.cgs_split.specs.Cases.{Case}
use Rattle.cgs_split.proofs.branch.Branch.split.Goals as goal

pub divided-requires-clause-polys : goal.divided-requires-clause-polys
divided-requires-clause-polys c =
    subst (λ ring. ArePolys ring c.in-Ok.basis) (ap (λ (k : Case). k.ring) c.self.view_is)
    c.in-Ok.ensures.polys

pub divided-requires-clause-nonzero : goal.divided-requires-clause-nonzero
divided-requires-clause-nonzero c = c.in-Ok.ensures.reduced.minimal.groebner.not_zero
