-- The laws of division, as facts.
use Rattle.std.specs.Prelude.{ℕ, ◌≡◌, ◌<◌, List, length}
use Rattle.cgs_poly.specs.Ring.{Ring}
use Rattle.cgs_poly.specs.Polynomial.{Term, IsRing, IsCanonical}
use Rattle.cgs_poly.specs.Product.{leading_monomial, leading_coefficient}
use Rattle.cgs_algebra.specs.Groebner.{AreMonic, IsGroebnerBasis, IsMinimal, IsReduced, IsAscending, SomeLeadDivides}
use Rattle.cgs_divide.specs.Ending.{ended}
use Rattle.cgs_divide.specs.DivisionRun.{divided, done}
use Rattle.cgs_divide.specs.Division.{HasDivided}
use Rattle.cgs_divide.specs.AutoreductionRun.{autoreduction}
use Rattle.cgs_divide.specs.Autoreduction.{IsDividedAt}

-- what a run by monic polynomials that ends with a remainder has found
abbrev pub DivisionDivides : Type 0
DivisionDivides =
    (ring : Ring) (G : List (List Term)) (units left : ℕ) (f remainder : List Term) (quotients : List (List Term))
    → 0 < ring.modulus → AreMonic ring G → IsCanonical ring f
    → divided ring G units f ≡ done remainder quotients left → HasDivided ring G f remainder quotients

-- the remainder of a monic polynomial by monic ones has its lead and is monic, if none of their leads divides that lead
abbrev pub DivisionKeepsLead : Type 0
DivisionKeepsLead =
    (ring : Ring) (D : List (List Term)) (f remainder : List Term) (quotients : List (List Term)) → 1 < ring.modulus → AreMonic ring D → IsCanonical ring f
    → leading_coefficient f ≡ 1 → HasDivided ring D f remainder quotients
    → ¬ SomeLeadDivides D (leading_monomial f)
    → (leading_monomial remainder ≡ leading_monomial f) × (leading_coefficient remainder ≡ 1)

-- a minimal basis of monic members in ascending order, each of them divided by the results before it, becomes the reduced one
abbrev pub AutoreductionReduces : Type 0
AutoreductionReduces =
    (ring : Ring) (F K R : List (List Term)) → 1 < ring.modulus → IsMinimal ring K F → AreMonic ring K → IsAscending ring K → length R ≡ length K
    → ((i : ℕ) → i < length K → IsDividedAt ring K R i) → IsReduced ring R F × IsAscending ring R

-- an autoreduction of a monic Gröbner basis that ends has found the reduced one, with ascending leads
abbrev pub AutoreductionRunReduces : Type 0
AutoreductionRunReduces =
    (ring : Ring) (G F R : List (List Term)) (units left : ℕ) → IsRing ring → AreMonic ring G → IsGroebnerBasis ring G F
    → autoreduction ring G units ≡ ended R left → IsReduced ring R F × IsAscending ring R
