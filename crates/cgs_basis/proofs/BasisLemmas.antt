-- A basis run that ends has found the reduced Gröbner basis of the generators' ideal.
use Rattle.std.proofs.Common.{ℕ, ◌≡◌, List, refl}
use Rattle.std.specs.List.{AllByRecursion}
use Rattle.cgs_field.proofs.PrimeLemmas.{modulus_field}
use Rattle.cgs_poly.specs.Ring.{Ring}
use Rattle.cgs_poly.specs.Polynomial.{Term, IsRing, IsCanonical}
use Rattle.cgs_algebra.specs.Groebner.{IsReduced, IsAscending}
use Rattle.cgs_divide.specs.Ending.{ended, followed}
use Rattle.cgs_divide.specs.AutoreductionRun.{autoreduction}
use Rattle.cgs_divide.proofs.EndingLemmas.{has_followed}
use Rattle.cgs_divide.proofs.AutoreductionRunLemmas.{autoreduction_reduces}
use Rattle.cgs_basis.specs.BasisRun.{completion, basis_run}
use Rattle.cgs_basis.proofs.CompletionLemmas.{completion_groebner}

pub basis_reduced : (ring : Ring) (F R : List (List Term)) (units left : ℕ) → IsRing ring → AllByRecursion (IsCanonical ring) F
    → basis_run ring F units ≡ ended R left → IsReduced ring R F × IsAscending ring R
unfolding basis_run
basis_reduced ring F R units left r can e =
    let w = has_followed (completion ring F units) (autoreduction ring) R left e in
    let g = completion_groebner ring r F can units w.units w.first w.ran in
    autoreduction_reduces ring w.first F R w.units left r (modulus_field ring.modulus r.modulus).two g.0 g.1 w.then

-- a run in two parts
pub basis_parts : (ring : Ring) (F : List (List Term)) (units : ℕ) → basis_run ring F units ≡ followed (completion ring F units) (autoreduction ring)
unfolding basis_run
basis_parts ring F units = refl
