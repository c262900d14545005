-- The entry of a list that holds a point, with its basis there.
use Rattle.std.specs.Prelude.{ℕ, ◌+◌, cond, Option, Some, None, List, [], ◌∷◌, map}
use Rattle.cgs_poly.specs.Ring.{Ring}
use Rattle.cgs_poly.specs.Polynomial.{Term}
use Rattle.cgs_poly.specs.Parameters.{variables_ring, specialised}
use Rattle.cgs_poly.specs.Monic.{monic_of}
use Rattle.cgs_entry.specs.declared.entry.Entry.{Entry}
use Rattle.cgs_entry.specs.Bases.{basis_of}
use Rattle.cgs_entry.specs.Conditions.{is_in_region}
use Rattle.cgs_locate.specs.declared.search.Located.{Located}

-- what a polynomial becomes at the point, made monic
abbrev pub monic_at : Ring → List ℕ → List Term → List Term
monic_at ring point f = monic_of (variables_ring ring) (specialised ring point f)

abbrev pub basis_at : Ring → List ℕ → List (List Term) → List (List Term)
basis_at ring point G = map (monic_at ring point) G

-- the first entry whose region has the point, where the first of the list has the index i
abbrev pub located_from : ℕ → Ring → List ℕ → List Entry → Option Located
located_from i ring point [] = None
located_from i ring point (entry ∷ entries) =
    cond (is_in_region ring entry.conditions.zero entry.conditions.nonzero point)
    (Some (record { index = i; basis = basis_at ring point (basis_of entry.kind) })) (located_from (i + 1) ring point entries)

abbrev pub located : Ring → List ℕ → List Entry → Option Located
located ring point entries = located_from 0 ring point entries
