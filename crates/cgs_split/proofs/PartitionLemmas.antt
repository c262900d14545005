-- The regions of a node's children cover the branch's region, and no two of them meet.
use Rattle.std.proofs.Common.{ℕ, ◌≡◌, ◌+◌, Bool, true, false, cond, not, ◌&&◌, ◌==◌, List, [], ◌∷◌, ◌++◌, refl, ◌∙◌, arith}
use Rattle.std.specs.List.{AllByRecursion}
use Rattle.cgs_field.specs.Prime.{IsField}
use Rattle.cgs_poly.specs.Ring.{Ring}
use Rattle.cgs_poly.specs.Polynomial.{Term, IsCanonical}
use Rattle.cgs_poly.specs.Parameters.{value_at}
use Rattle.cgs_algebra.specs.Stability.{parametric_members, other_members}
use Rattle.cgs_entry.specs.Conditions.{with_member, all_vanish, none_vanishes}
use Rattle.cgs_dickson.specs.Dickson.{coefficient_list}
use Rattle.cgs_split.specs.Cases.{Case}
use Rattle.cgs_split.specs.Nodes.{unit_children, split_children, main_child, children_of, is_point_of, branches_at}
use Rattle.cgs_split.proofs.ConditionLemmas.{all_with, none_with, none_with_all}

-- 1 where a test holds
abbrev count : Bool → ℕ
count b = cond b 1 0

branches_append : (ring : Ring) (a : List ℕ) (bs cs : List Case) → branches_at ring a (bs ++ cs) ≡ branches_at ring a bs + branches_at ring a cs
branches_append ring a [] cs = omega arith
branches_append ring a (b ∷ bs) cs = omega (arith, branches_append ring a bs cs)

module _ (ring : Ring) (a : List ℕ) (field : IsField ring.modulus) where
  -- the first member that does not vanish
  units_count : (branch : Case) (E N K : List (List Term)) → AllByRecursion (IsCanonical ring) K
      → branches_at ring a (unit_children ring branch E N K) ≡ count ((all_vanish ring a E && none_vanishes ring a N) && not (all_vanish ring a K))
  units_count branch E N [] h = by_tests (all_vanish ring a E) (none_vanishes ring a N)
    where
      by_tests : (e n : Bool) → ◌≡◌ {A = ℕ} 0 (count ((e && n) && false))
      by_tests true true = refl
      by_tests true false = refl
      by_tests false n = refl
  units_count branch E N (g ∷ K) h =
      by_tests (all_vanish ring a E) (none_vanishes ring a N) (value_at ring a g == 0) (all_vanish ring a K) _ _ _
      (none_with ring a field N g h.0) (all_with ring a field E g h.0) (units_count branch (with_member ring E g) N K h.1)
    where
      by_tests : (e n v k n' e' : Bool) (i : ℕ) → n' ≡ (n && not v) → e' ≡ (e && v) → i ≡ count ((e' && n) && not k)
          → count (e && n') + i ≡ count ((e && n) && not (v && k))
      by_tests true true true true n' e' i p q r = rw (r, p, q) refl
      by_tests true true true false n' e' i p q r = rw (r, p, q) refl
      by_tests true true false k n' e' i p q r = rw (r, p, q) refl
      by_tests true false true k n' e' i p q r = rw (r, p, q) refl
      by_tests true false false k n' e' i p q r = rw (r, p, q) refl
      by_tests false n v k n' e' i p q r = rw (r, q) refl

  -- the first member that vanishes
  splits_count : (branch : Case) (E N F H : List (List Term)) → AllByRecursion (IsCanonical ring) H
      → branches_at ring a (split_children ring branch E N F H) ≡ count ((all_vanish ring a E && none_vanishes ring a N) && not (none_vanishes ring a H))
  splits_count branch E N F [] h = by_tests (all_vanish ring a E) (none_vanishes ring a N)
    where
      by_tests : (e n : Bool) → ◌≡◌ {A = ℕ} 0 (count ((e && n) && false))
      by_tests true true = refl
      by_tests true false = refl
      by_tests false n = refl
  splits_count branch E N F (f ∷ H) h =
      by_tests (all_vanish ring a E) (none_vanishes ring a N) (value_at ring a f == 0) (none_vanishes ring a H) _ _ _
      (none_with ring a field N f h.0) (all_with ring a field E f h.0) (splits_count branch E (with_member ring N f) F H h.1)
    where
      by_tests : (e n v k n' e' : Bool) (i : ℕ) → n' ≡ (n && not v) → e' ≡ (e && v) → i ≡ count ((e && n') && not k)
          → count (e' && n) + i ≡ count ((e && n) && not (not v && k))
      by_tests true true true k n' e' i p q r = rw (r, p, q) refl
      by_tests true true false true n' e' i p q r = rw (r, p, q) refl
      by_tests true true false false n' e' i p q r = rw (r, p, q) refl
      by_tests true false true k n' e' i p q r = rw (r, p, q) refl
      by_tests true false false k n' e' i p q r = rw (r, p, q) refl
      by_tests false n v k n' e' i p q r = rw (r, q) refl

  -- each point of the region is in one child's region, and no other point is in any, where the conditions vanish if the parametric members do
  pub children_count : (branch : Case) (G M : List (List Term)) → AllByRecursion (IsCanonical ring) (parametric_members ring G)
      → AllByRecursion (IsCanonical ring) (coefficient_list ring M)
      → (all_vanish ring a (parametric_members ring G) ≡ true → all_vanish ring a branch.zero ≡ true)
      → branches_at ring a (children_of ring branch G M) ≡ count (is_point_of ring a branch)
  children_count branch G M g_ok h_ok back =
      let Z : List (List Term) = parametric_members ring G in
      let H : List (List Term) = coefficient_list ring M in
      branches_append ring a (unit_children ring branch branch.zero branch.nonzero Z)
      (main_child ring branch G M ∷ split_children ring branch Z branch.nonzero (other_members ring G) H)
      ∙ by_tests (all_vanish ring a branch.zero) (none_vanishes ring a branch.nonzero) (all_vanish ring a Z) (none_vanishes ring a H) _ _ _ back
      (units_count branch branch.zero branch.nonzero Z g_ok) (none_with_all ring a field branch.nonzero H h_ok)
      (splits_count branch Z branch.nonzero (other_members ring G) H h_ok)
    where
      by_tests : (e n z h n' : Bool) (i j : ℕ) → (z ≡ true → e ≡ true) → i ≡ count ((e && n) && not z) → n' ≡ (n && h) → j ≡ count ((z && n) && not h)
          → i + (count (z && n') + j) ≡ count (e && n)
      by_tests true true true true n' i j b p q r = rw (p, q, r) refl
      by_tests true true true false n' i j b p q r = rw (p, q, r) refl
      by_tests true true false h n' i j b p q r = rw (p, r) refl
      by_tests true false true h n' i j b p q r = rw (p, q, r) refl
      by_tests true false false h n' i j b p q r = rw (p, r) refl
      by_tests false n true h n' i j b p q r = absurd (cc (b refl))
      by_tests false n false h n' i j b p q r = rw (p, r) refl
