-- What a report tells of a basis.
use Rattle.std.specs.Prelude.{Bool, true, false, not, List, [], ◌∷◌}
use Rattle.std.specs.Cmp.Lexicographic.{pointwise}
use Rattle.cgs_poly.specs.Ring.{Ring}
use Rattle.cgs_poly.specs.Polynomial.{Term, one}
use Rattle.cgs_poly.specs.Same.{same_poly}
use Rattle.cgs_report.specs.declared.entry.Findings.{Findings}
use Rattle.cgs_report.specs.declared.standard.Standard.{Standard}
use Rattle.cgs_report.specs.declared.standard.Standard.TheVariants.{NotFinite, Many, Count}
use Rattle.cgs_report.specs.Standard.{leads_x}
use Rattle.cgs_report.specs.Box.{standard_of}

-- whether the basis is another than the list of 1
abbrev pub is_solvable : Ring → List (List Term) → Bool
is_solvable ring basis = not (pointwise same_poly basis (one ring ∷ []))

-- whether the standard monomials are finitely many
abbrev pub is_finite : Standard → Bool
is_finite NotFinite = false
is_finite Many = true
is_finite (Count k) = true

-- the answer on a basis
abbrev pub findings_of : Ring → List (List Term) → Findings
findings_of ring basis =
    let standard : Standard = standard_of ring.variables (leads_x ring basis) in
    record { solvable = is_solvable ring basis; finite = is_finite standard; standard = standard }
