-- The first entry that holds a point: a step of the search, and the entry that is found.
use Rattle.std.proofs.Common.{ℕ, zero, suc, ◌≡◌, ◌+◌, ◌<◌, Bool, true, false, Option, Some, None, List, [], ◌∷◌, drop, refl, sym, ap, ◌∙◌, subst, arith}
use Rattle.std.specs.Prelude.{slice_get}
use Rattle.cgs_list.proofs.ListLemmas.{all_at, drop_at}
use Rattle.cgs_poly.specs.Ring.{Ring}
use Rattle.cgs_entry.specs.declared.entry.Entry.{Entry}
use Rattle.cgs_entry.specs.Bases.{basis_of}
use Rattle.cgs_entry.specs.Conditions.{IsInRegion, is_in_region}
use Rattle.cgs_entry.specs.Entries.{IsSound}
use Rattle.cgs_entry.specs.Laws.{LiesAt}
use Rattle.cgs_entry.proofs.BasisLemmas.{sound_at}
use Rattle.cgs_entry.proofs.ConditionLemmas.{region_decides}
use Rattle.cgs_entry.proofs.CoverLemmas.{met_points_lie_in_one, other_points_lie_in_none}
use Rattle.cgs_locate.specs.declared.search.Located.{Located}
use Rattle.cgs_locate.specs.Located.{basis_at, located, located_from}
use Rattle.cgs_locate.specs.Laws.{IsFirst, FoundIsFirst, NoneHasPoint, NowhereOutside, BasisServes}
use Rattle.cgs_locate.proofs.MonicLemmas.{basis_serves_at}

module _ (ring : Ring) (point : List ℕ) where
  abbrev holds : Entry → Bool
  holds entry = is_in_region ring entry.conditions.zero entry.conditions.nonzero point

  -- a step of the search

  pub located_here : (entries : List Entry) (i : ℕ) (e : Entry) → slice_get entries i ≡ Some e → holds e ≡ true
      → located_from i ring point (drop i entries) ≡ Some (record { index = i; basis = basis_at ring point (basis_of e.kind) })
  located_here entries i e at t = ap (located_from i ring point) (drop_at entries i e at) ∙ rw t refl

  pub located_later : (entries : List Entry) (i : ℕ) (e : Entry) → slice_get entries i ≡ Some e → holds e ≡ false
      → located_from (i + 1) ring point (drop (i + 1) entries) ≡ located_from i ring point (drop i entries)
  located_later entries i e at t = sym (ap (located_from i ring point) (drop_at entries i e at) ∙ rw t refl)

  -- the first of a list, and those behind it

  not_first : (entry : Entry) (entries : List Entry) → holds entry ≡ false → LiesAt ring (entry ∷ entries) point 0 → ⊥
  not_first entry entries t k =
      let kat = k.at in
      let same : entry ≡ k.entry = cc in
      let inside : holds entry ≡ true = ap holds same ∙ (region_decides ring k.entry.conditions.zero k.entry.conditions.nonzero point).1 k.inside in
      absurd (cc)

  behind : (entry : Entry) (entries : List Entry) (place : ℕ) → LiesAt ring (entry ∷ entries) point (suc place) → LiesAt ring entries point place
  behind entry entries place k = record { entry = k.entry; at = k.at; inside = k.inside }

  -- what is found

  abbrev FirstFrom : ℕ → List Entry → Located → Type 0
  FirstFrom i entries found = (place : ℕ) × (found.index ≡ i + place) × IsFirst ring entries point (record { index = place; basis = found.basis })

  first_from : (i : ℕ) (entries : List Entry) (found : Located) → located_from i ring point entries ≡ Some found → FirstFrom i entries found
  first_from i [] found e = absurd (cc)
  first_from i (entry ∷ entries) found e = by_test (first_from (i + 1) entries found) (holds entry) refl
    where
      here : Located
      here = record { index = i; basis = basis_at ring point (basis_of entry.kind) }

      by_test : (located_from (i + 1) ring point entries ≡ Some found → FirstFrom (i + 1) entries found) → (b : Bool) → holds entry ≡ b
          → FirstFrom i (entry ∷ entries) found
      by_test ih true t =
          let s : Some here ≡ Some found = rw t at e in
          let same : here ≡ found = cc in
          let index : i ≡ found.index = ap (λ (l : Located). l.index) same in (
            0,
            omega (arith, index),
            record {
              lies = record { entry = entry; at = refl; inside = (region_decides ring entry.conditions.zero entry.conditions.nonzero point).0 t };
              basis = ap (λ (l : Located). l.basis) (sym same);
              before = λ place l. absurd (omega (arith, l));
            },
          )
      by_test ih false t =
          let f = ih (rw t at e) in
          let index = f.1 in (
            suc f.0,
            omega (arith, index),
            record {
              lies = record { entry = f.2.lies.entry; at = f.2.lies.at; inside = f.2.lies.inside };
              basis = f.2.basis;
              before = before f.0 (λ place. f.2.before place);
            },
          )
        where
          before : (n : ℕ) → ((place : ℕ) → place < n → LiesAt ring entries point place → ⊥) → (place : ℕ) → place < suc n
              → LiesAt ring (entry ∷ entries) point place → ⊥
          before n earlier zero l k = not_first entry entries t k
          before n earlier (suc place) l k = earlier place (omega (arith, l)) (behind entry entries place k)

  none_from : (i : ℕ) (entries : List Entry) → located_from i ring point entries ≡ None → (place : ℕ) → LiesAt ring entries point place → ⊥
  none_from i [] e place k = let kat = k.at in absurd (cc)
  none_from i (entry ∷ entries) e place k = by_test (none_from (i + 1) entries) (holds entry) refl place k
    where
      by_test : (located_from (i + 1) ring point entries ≡ None → (place : ℕ) → LiesAt ring entries point place → ⊥) → (b : Bool) → holds entry ≡ b
          → (place : ℕ) → LiesAt ring (entry ∷ entries) point place → ⊥
      by_test ih true t place k = let n = rw t at e in absurd (cc)
      by_test ih false t zero k = not_first entry entries t k
      by_test ih false t (suc place) k = ih (rw t at e) place (behind entry entries place k)

pub found_is_first : FoundIsFirst
found_is_first ring entries point found e =
    let f = first_from ring point 0 entries found e in
    let index = f.1 in
    subst (λ n. IsFirst ring entries point (record { index = n; basis = found.basis })) (omega (arith, index)) f.2

pub none_has_point : NoneHasPoint
none_has_point ring entries point e = none_from ring point 0 entries e

pub nowhere_outside : NowhereOutside
nowhere_outside ring given other polys entries point c p = (
  λ e inside. let one = met_points_lie_in_one ring given other polys entries point c p inside in none_has_point ring entries point e one.place one.lies,
  λ outside. by_answer outside (located ring point entries) refl,
)
  where
    by_answer : ¬ IsInRegion ring given other point → (o : Option Located) → located ring point entries ≡ o → located ring point entries ≡ None
    by_answer outside None e = e
    by_answer outside (Some found) e =
        let first = found_is_first ring entries point found e in
        absurd (outside (other_points_lie_in_none ring given other polys entries point found.index c p first.lies))

pub basis_serves : BasisServes
basis_serves ring given other polys entries point entry found r c p e stands solved =
    let first = found_is_first ring entries point found e in
    let at = first.lies.at in
    let same : first.lies.entry ≡ entry = cc in
    let inside : IsInRegion ring entry.conditions.zero entry.conditions.nonzero point =
    subst (λ (x : Entry). IsInRegion ring x.conditions.zero x.conditions.nonzero point) same first.lies.inside in
    let is : found.basis ≡ basis_at ring point (basis_of entry.kind) = first.basis ∙ ap (λ (x : Entry). basis_at ring point (basis_of x.kind)) same in
    let sound : IsSound ring polys entry = all_at (IsSound ring polys) entries found.index entry c.sound stands in
    rw is (basis_serves_at ring point polys (basis_of entry.kind) r (sound_at ring polys point entry sound p inside entry.kind refl solved).minimal)
