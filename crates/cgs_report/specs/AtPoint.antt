-- What a report tells at the points where a basis serves.
use Rattle.std.specs.Prelude.{ℕ, ◌≡◌, ◌↔◌, true, false, List, [], length}
use Rattle.std.specs.List.{AllByRecursion}
use Rattle.cgs_poly.specs.Ring.{Ring}
use Rattle.cgs_poly.specs.Polynomial.{Term, one, places, IsRing, IsCanonical, ArePolys}
use Rattle.cgs_poly.specs.Product.{leading_monomial}
use Rattle.cgs_poly.specs.Parameters.{variables_ring}
use Rattle.cgs_algebra.specs.Combination.{IsMember}
use Rattle.cgs_algebra.specs.Specialisation.{specialised_list}
use Rattle.cgs_entry.specs.Bases.{IsOneOrHasVariables}
use Rattle.cgs_entry.specs.Entries.{IsBasisAt}
use Rattle.cgs_report.specs.declared.entry.Findings.{Findings}
use Rattle.cgs_report.specs.Standard.{IsStandard, AreFinite, leads_x}
use Rattle.cgs_report.specs.Laws.{Tells}
use Rattle.cgs_report.specs.Report.{findings_of}

-- a monomial of the ring that is the leading monomial of no polynomial of the ideal of F but 0
pub record IsStandardOf (ring : Ring) (F : List (List Term)) (m : List ℕ) : Type 0 where
  pub places : length m ≡ places ring
  pub leads_none : (f : List Term) → IsCanonical ring f → IsMember ring F f → ¬ (f ≡ []) → ¬ (leading_monomial f ≡ m)

-- at a point of a basis, those that no lead of the basis divides are the standard monomials of the specialised ideal
abbrev pub StandardAtPoint : Type 0
StandardAtPoint =
    (ring : Ring) (point : List ℕ) (polys basis : List (List Term)) (m : List ℕ) → IsRing ring → AllByRecursion (IsCanonical ring) basis
    → IsBasisAt ring point polys basis
    → IsStandard ring.variables (leads_x ring basis) m ↔ IsStandardOf (variables_ring ring) (specialised_list ring point polys) m

-- what is told is so of the ideal of F: whether it is another than the whole ring, whether its standard monomials are finitely many, and
-- their number
pub record IsTrueOf (ring : Ring) (F : List (List Term)) (findings : Findings) : Type 0 where
  pub solvable : IsMember ring F (one ring) ↔ (findings.solvable ≡ false)
  pub finite : AreFinite (IsStandardOf ring F) ↔ (findings.finite ≡ true)
  pub standard : Tells (IsStandardOf ring F) findings.standard

-- at a point of a basis that is 1 alone or has variables in each member, what is told of it is so of the specialised ideal
abbrev pub ReportAtPoint : Type 0
ReportAtPoint =
    (ring : Ring) (point : List ℕ) (polys basis : List (List Term)) → IsRing ring → ArePolys ring basis
    → IsBasisAt ring point polys basis → IsOneOrHasVariables ring basis
    → IsTrueOf (variables_ring ring) (specialised_list ring point polys) (findings_of ring basis)
