-- The bases of entries, and those that show whether 1 is in the ideal at the points where they serve.
use Rattle.std.specs.Prelude.{◌≡◌, ◌⊎◌, false, List, [], ◌∷◌}
use Rattle.std.specs.List.{AllByRecursion}
use Rattle.cgs_poly.specs.Ring.{Ring}
use Rattle.cgs_poly.specs.Polynomial.{Term, one}
use Rattle.cgs_poly.specs.Parameters.{has_no_variables}
use Rattle.cgs_entry.specs.declared.entry.Entry.{Entry}
use Rattle.cgs_entry.specs.declared.entry.EntryKind.{EntryKind}
use Rattle.cgs_entry.specs.declared.entry.EntryKind.TheVariants.{Solved, Refused}

-- the basis of an entry; the empty list where it is refused
abbrev pub basis_of : EntryKind → List (List Term)
basis_of (Solved basis tested) = basis
basis_of (Refused cause) = []

-- each polynomial has a variable
abbrev pub HaveVariables : Ring → List (List Term) → Type 0
HaveVariables ring G = AllByRecursion (λ g. has_no_variables ring g ≡ false) G

-- 1 alone, or polynomials each of which has a variable
abbrev pub IsOneOrHasVariables : Ring → List (List Term) → Type 0
IsOneOrHasVariables ring G = (G ≡ one ring ∷ []) ⊎ HaveVariables ring G

-- so is the basis of an entry
abbrev pub ShowsOne : Ring → Entry → Type 0
ShowsOne ring entry = IsOneOrHasVariables ring (basis_of entry.kind)
