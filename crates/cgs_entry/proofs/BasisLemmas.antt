-- What holds of the basis of an entry.
use Rattle.std.proofs.Common.{ℕ, ◌≡◌, false, List, subst}
use Rattle.cgs_poly.specs.Ring.{Ring}
use Rattle.cgs_poly.specs.Polynomial.{Term, ArePolys}
use Rattle.cgs_point.specs.Points.{IsPoint}
use Rattle.cgs_entry.specs.declared.entry.Entry.{Entry}
use Rattle.cgs_entry.specs.declared.entry.EntryKind.{EntryKind}
use Rattle.cgs_entry.specs.declared.entry.EntryKind.TheVariants.{Solved, Refused}
use Rattle.cgs_entry.specs.Bases.{basis_of}
use Rattle.cgs_entry.specs.Conditions.{IsInRegion}
use Rattle.cgs_entry.specs.Entries.{IsFound, IsBasisAt, Serves, IsSound, is_refused}

-- it is of the ring
pub basis_polys : (ring : Ring) (kind : EntryKind) → IsFound ring kind → ArePolys ring (basis_of kind)
basis_polys ring (Solved basis tested) h = h
basis_polys ring (Refused cause) h = tt

-- unless the entry is refused, it is one at each point of the region
pub sound_at : (ring : Ring) (polys : List (List Term)) (point : List ℕ) (entry : Entry) → IsSound ring polys entry → IsPoint ring point
    → IsInRegion ring entry.conditions.zero entry.conditions.nonzero point → (kind : EntryKind) → entry.kind ≡ kind → is_refused entry ≡ false
    → IsBasisAt ring point polys (basis_of kind)
sound_at ring polys point entry sound p inside (Solved basis tested) e n =
    let over = subst (Serves ring entry.conditions.zero entry.conditions.nonzero polys) e sound.serves in over.at point p inside
sound_at ring polys point entry sound p inside (Refused cause) e n = absurd (let m = rw e at n in cc)
