-- A list that is joined from comprehensive lists is comprehensive: each point of a refused entry is once in the entry's part.
use Rattle.std.proofs.Common.{ℕ, ◌≡◌, Bool, true, false, cond, List, [], ◌∷◌, map, refl, ◌∙◌, arith}
use Rattle.std.specs.List.{AllByRecursion}
use Rattle.cgs_list.proofs.ListLemmas.{all_append}
use Rattle.cgs_poly.specs.Ring.{Ring}
use Rattle.cgs_poly.specs.Polynomial.{Term}
use Rattle.cgs_point.specs.Points.{IsPoint}
use Rattle.cgs_entry.specs.declared.entry.Entry.{Entry}
use Rattle.cgs_entry.specs.Conditions.{is_in_region}
use Rattle.cgs_entry.specs.Entries.{is_refused, entries_at, IsSound}
use Rattle.cgs_entry.proofs.CoverLemmas.{entries_first}
use Rattle.cgs_split.proofs.TreeLemmas.{entries_append}
use Rattle.cgs_system.specs.Joining.{behind, joined, HasComprehensivePart}
use Rattle.cgs_system.specs.Laws.{JoinedListIsComprehensive}

module _ (ring : Ring) (polys : List (List Term)) (part : Entry → List Entry) where
  -- a path has no part in what an entry says
  moved_count : (path a : List ℕ) (entries : List Entry) → entries_at ring a (map (behind path) entries) ≡ entries_at ring a entries
  moved_count path a [] = refl
  moved_count path a (e ∷ es) =
      omega (arith, moved_count path a es, entries_first ring a e es, entries_first ring a (behind path e) (map (behind path) es))

  moved_sound : (path : List ℕ) (entries : List Entry) → AllByRecursion (IsSound ring polys) entries
      → AllByRecursion (IsSound ring polys) (map (behind path) entries)
  moved_sound path [] h = tt
  moved_sound path (e ∷ es) h = (record { zero = h.0.zero; nonzero = h.0.nonzero; serves = h.0.serves }, moved_sound path es h.1)

  abbrev replaced : Bool → Entry → List Entry
  replaced b entry = cond b (map (behind entry.path) (part entry)) (entry ∷ [])

  -- what an entry is replaced by has its points, each once
  replaced_count : (a : List ℕ) → IsPoint ring a → (entry : Entry) (b : Bool) → is_refused entry ≡ b → HasComprehensivePart ring polys part entry
      → entries_at ring a (replaced b entry) ≡ cond (is_in_region ring entry.conditions.zero entry.conditions.nonzero a) 1 0
  replaced_count a point entry true e h = moved_count entry.path a (part entry) ∙ (h e).cover a point
  replaced_count a point entry false e h = omega (arith, entries_first ring a entry [])

  replaced_sound : (entry : Entry) (b : Bool) → is_refused entry ≡ b → HasComprehensivePart ring polys part entry → IsSound ring polys entry
      → AllByRecursion (IsSound ring polys) (replaced b entry)
  replaced_sound entry true e h s = moved_sound entry.path (part entry) (h e).sound
  replaced_sound entry false e h s = (s, tt)

  joined_count : (a : List ℕ) → IsPoint ring a → (entries : List Entry) → AllByRecursion (HasComprehensivePart ring polys part) entries
      → entries_at ring a (joined part entries) ≡ entries_at ring a entries
  joined_count a point [] h = refl
  joined_count a point (e ∷ es) h =
      omega (
        arith,
        entries_append ring a (replaced (is_refused e) e) (joined part es),
        replaced_count a point e (is_refused e) refl h.0,
        joined_count a point es h.1,
        entries_first ring a e es,
      )

  joined_sound : (entries : List Entry) → AllByRecursion (HasComprehensivePart ring polys part) entries → AllByRecursion (IsSound ring polys) entries
      → AllByRecursion (IsSound ring polys) (joined part entries)
  joined_sound [] h s = tt
  joined_sound (e ∷ es) h s = all_append (IsSound ring polys) (replaced (is_refused e) e) (joined part es)
      (replaced_sound e (is_refused e) refl h.0 s.0) (joined_sound es h.1 s.1)

pub joined_comprehensive : JoinedListIsComprehensive
joined_comprehensive ring zero nonzero polys part entries c h = record {
  cover = λ a point. joined_count ring polys part a point entries h ∙ c.cover a point;
  sound = joined_sound ring polys part entries h c.sound;
}
