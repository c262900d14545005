-- How the canonical list of two canonical lists, one after the other, begins: what a merge of two sorted lists does.
use Rattle.std.proofs.Common.{ℕ, ◌≡◌, ◌+◌, ◌-◌, ◌*◌, ◌%◌, ◌<◌, ◌≤◌, Bool, true, false, cond, Option, Some, None, List, [], ◌∷◌, ◌++◌, length, take, drop}
use Rattle.std.proofs.Common.{append_assoc, refl, sym, ap, ◌∙◌, subst, arith, eqb}
use Rattle.std.proofs.Math.Nat.{mod-eq_of_lt}
use Rattle.std.proofs.lemmas.Bool.{ne_eqb}
use Rattle.std.proofs.lemmas.List.{append-nil, drop-drop, drop_all}
use Rattle.std.specs.Prelude.{slice_get}
use Rattle.std.specs.declared.cmp.Ordering.{Ordering}
use Rattle.std.specs.declared.cmp.Ordering.TheVariants.{Less, Equal, Greater}
use Rattle.std.specs.Ordering.{nat_cmp, is_eq}
use Rattle.std.specs.Cmp.Lexicographic.{slice_cmp}
use Rattle.cgs_list.proofs.ListLemmas.{drop_parts, drop_at}
use Rattle.cgs_order.specs.TermOrder.{compared}
use Rattle.cgs_order.proofs.OrderLemmas.{cmp_self, cmp_equal, compared_back, compared_equal, compared_forth}
use Rattle.cgs_terms.specs.declared.ring.Ring.{Ring}
use Rattle.cgs_terms.specs.Polynomial.{Term, term, order_of, total, IsOfRing, StartsBelow, IsCanonical, kept, inserted, canonical}
use Rattle.cgs_terms.specs.Merge.{AreAbove, StartsNotAbove, first_at, count_met, joined}
use Rattle.cgs_terms.proofs.SumLemmas.{total_append}
use Rattle.cgs_terms.proofs.CanonicalLemmas.{AllBelow, all_below_append, all_below_canonical, append_of_ring, canonical_same, canonical_of_ring}
use Rattle.cgs_terms.proofs.CanonicalLemmas.{canonical_starts, canonical_itself}
use Rattle.cgs_terms.proofs.PlaceLemmas.{canonical_drop}

pub kept_whole : (ring : Ring) (c : ℕ) (m : List ℕ) (f : List Term) → 0 < c → c < ring.modulus → kept ring c m f ≡ term c m ∷ f
kept_whole ring c m f l h =
    let e : c % ring.modulus ≡ c = mod-eq_of_lt h in
    let t : eqb (c % ring.modulus) 0 ≡ false = ne_eqb (c % ring.modulus) 0 (λ z. omega arith) in
    rw (t, e) refl

inserted_above : (ring : Ring) (c : ℕ) (m : List ℕ) (f : List Term) → StartsBelow ring m f → inserted ring c m f ≡ kept ring c m f
inserted_above ring c m [] s = refl
inserted_above ring c m (y ∷ f) s = rw (compared_forth (order_of ring) y.exponents m s, inserted) refl

-- a term above all the others comes first
pub canonical_above : (ring : Ring) (c : ℕ) (m : List ℕ) (f : List Term) → 0 < ring.modulus → IsOfRing ring f
    → AllBelow ring m f → canonical ring (term c m ∷ f) ≡ kept ring c m (canonical ring f)
canonical_above ring c m f pos h b = inserted_above ring c m (canonical ring f) (canonical_starts ring m f pos h b)

-- unequal lists compare unequal
different : (a b : List ℕ) → a ≡ b → (o : Ordering) → slice_cmp nat_cmp a b ≡ o → (o ≡ Equal → ⊥) → ⊥
different a b q o e n = n (sym e ∙ (ap (λ k. slice_cmp nat_cmp k b) q ∙ cmp_self b))

module _ (ring : Ring) (pos : 0 < ring.modulus) where
  both_ring : (f g : List Term) → IsCanonical ring f → IsCanonical ring g → IsOfRing ring (f ++ g)
  both_ring f g h k = append_of_ring ring f g (canonical_of_ring ring f h) (canonical_of_ring ring g k)

  both_below : (m : List ℕ) (f g : List Term) → IsCanonical ring f → IsCanonical ring g → StartsBelow ring m f → StartsBelow ring m g → AllBelow ring m (f ++ g)
  both_below m f g h k s t = all_below_append ring m f g (all_below_canonical ring m f h s) (all_below_canonical ring m g k t)

  pub merge_left : (x : Term) (f g : List Term) → IsCanonical ring (x ∷ f) → IsCanonical ring g
      → StartsBelow ring x.exponents g → canonical ring ((x ∷ f) ++ g) ≡ x ∷ canonical ring (f ++ g)
  merge_left x f g h k s = canonical_above ring x.coefficient x.exponents (f ++ g) pos (both_ring f g h.4 k) (both_below x.exponents f g h.4 k h.3 s)
      ∙ kept_whole ring x.coefficient x.exponents (canonical ring (f ++ g)) h.0 h.1

  pub merge_right : (y : Term) (f g : List Term) → IsCanonical ring f → IsCanonical ring (y ∷ g)
      → StartsBelow ring y.exponents f → canonical ring (f ++ y ∷ g) ≡ y ∷ canonical ring (f ++ g)
  merge_right y f g h k s =
      let e : canonical ring (f ++ y ∷ g) ≡ canonical ring (y ∷ (f ++ g)) =
      canonical_same ring (f ++ y ∷ g) (y ∷ (f ++ g)) pos (both_ring f (y ∷ g) h k) (k.2, both_ring f g h k.4) (record {
        under = λ w.
            let t : total w (f ++ y ∷ g) ≡ y.coefficient * w y.exponents + total w (f ++ g) = omega (arith, total_append w f (y ∷ g), total_append w f g) in
            ap (λ n. n % ring.modulus) t;
      }) in
      e ∙ (canonical_above ring y.coefficient y.exponents (f ++ g) pos (both_ring f g h k.4) (both_below y.exponents f g h k.4 s k.3)
      ∙ kept_whole ring y.coefficient y.exponents (canonical ring (f ++ g)) k.0 k.1)

  pub merge_both : (x y : Term) (f g : List Term) → IsCanonical ring (x ∷ f) → IsCanonical ring (y ∷ g) → x.exponents ≡ y.exponents
      → canonical ring ((x ∷ f) ++ y ∷ g) ≡ kept ring (x.coefficient + y.coefficient) x.exponents (canonical ring (f ++ g))
  merge_both x y f g h k q =
      let e : canonical ring ((x ∷ f) ++ y ∷ g) ≡ canonical ring (term (x.coefficient + y.coefficient) x.exponents ∷ (f ++ g)) =
      canonical_same ring ((x ∷ f) ++ y ∷ g) (term (x.coefficient + y.coefficient) x.exponents ∷ (f ++ g))
      pos (both_ring (x ∷ f) (y ∷ g) h k) (h.2, both_ring f g h.4 k.4) (record {
        under = λ w.
            let v : w y.exponents ≡ w x.exponents = ap w (sym q) in
            let t : x.coefficient * w x.exponents + total w (f ++ y ∷ g) ≡ (x.coefficient + y.coefficient) * w x.exponents + total w (f ++ g) =
            sums x.coefficient y.coefficient (w x.exponents) (w y.exponents) _ _ _ _ v (total_append w f (y ∷ g)) (total_append w f g) in
            ap (λ n. n % ring.modulus) t;
      }) in
      e ∙ canonical_above ring (x.coefficient + y.coefficient) x.exponents (f ++ g) pos (both_ring f g h.4 k.4)
      (both_below x.exponents f g h.4 k.4 h.3 (subst (λ n. StartsBelow ring n g) (sym q) k.3))
    where
      sums : (a b u v f g i j : ℕ) → v ≡ u → i ≡ f + (b * v + g) → j ≡ f + g → a * u + i ≡ (a + b) * u + j
      sums a b u v f g i j e p q = let z : b * v ≡ b * u = ap (λ n. b * n) e in omega arith

  -- terms of the first list that are above the second list come first
  pub merge_run : (run h g : List Term) (y : Term) → IsCanonical ring (run ++ h) → IsCanonical ring (y ∷ g)
      → AreAbove (order_of ring) y.exponents run → canonical ring ((run ++ h) ++ y ∷ g) ≡ run ++ canonical ring (h ++ y ∷ g)
  merge_run [] h g y a b r = refl
  merge_run (x ∷ run) h g y a b r =
      merge_left x (run ++ h) (y ∷ g) a b (compared_back (order_of ring) x.exponents y.exponents r.0) ∙ ap (λ k. x ∷ k) (merge_run run h g y a.4 b r.1)

  kept_before : (c : ℕ) (m : List ℕ) (f : List Term) → kept ring c m f ≡ kept ring c m [] ++ f
  kept_before c m f = step (eqb (c % ring.modulus) 0)
    where
      step : (b : Bool) → cond b f (term (c % ring.modulus) m ∷ f) ≡ cond b [] (term (c % ring.modulus) m ∷ []) ++ f
      step true = refl
      step false = refl

  not_above : (a b : List ℕ) (o : Ordering) → compared (order_of ring) a b ≡ o → (compared (order_of ring) a b ≡ Greater → ⊥)
      → (a ≡ b → ⊥) → length a ≡ length b → compared (order_of ring) a b ≡ Less
  not_above a b Less e n d l = e
  not_above a b Equal e n d l = absurd (d (compared_equal (order_of ring) a b l e))
  not_above a b Greater e n d l = absurd (n e)

  -- a term of the second list, before which nothing is left in the first
  pub merge_joined : (h g : List Term) (y : Term) → IsCanonical ring h → IsCanonical ring (y ∷ g) → StartsNotAbove (order_of ring) y.exponents h
      → canonical ring (h ++ y ∷ g) ≡ joined ring y.coefficient y.exponents (first_at y.exponents h)
      ++ canonical ring (drop (count_met (first_at y.exponents h)) h ++ g)
  merge_joined [] g y a b n = merge_right y [] g tt b tt
  merge_joined (x ∷ h) g y a b n = step (slice_cmp nat_cmp x.exponents y.exponents) refl
    where
      other : (x.exponents ≡ y.exponents → ⊥) → canonical ring ((x ∷ h) ++ y ∷ g) ≡ y ∷ canonical ring ((x ∷ h) ++ g)
      other d = merge_right y (x ∷ h) g a b (not_above x.exponents y.exponents (compared (order_of ring) x.exponents y.exponents) refl n d (a.2 ∙ sym b.2))

      met : Ordering → Option ℕ
      met o = cond (is_eq o) (Some x.coefficient) None

      step : (o : Ordering) → slice_cmp nat_cmp x.exponents y.exponents ≡ o
          → canonical ring ((x ∷ h) ++ y ∷ g) ≡ joined ring y.coefficient y.exponents (met o) ++ canonical ring (drop (count_met (met o)) (x ∷ h) ++ g)
      step Less e = other (λ q. different x.exponents y.exponents q Less e (λ z. cc))
      step Greater e = other (λ q. different x.exponents y.exponents q Greater e (λ z. cc))
      step Equal e =
          let q : x.exponents ≡ y.exponents = cmp_equal x.exponents y.exponents e in
          merge_both x y h g a b q
          ∙ (ap (λ m. kept ring (x.coefficient + y.coefficient) m (canonical ring (h ++ g))) q
          ∙ kept_before (x.coefficient + y.coefficient) y.exponents (canonical ring (h ++ g)))

  -- one step of a merge: the terms from i to end are above y, the next term of the second list
  pub merge_next : (f g : List Term) (i end j : ℕ) (y : Term) → IsCanonical ring f → IsCanonical ring g → i ≤ end → slice_get g j ≡ Some y
      → AreAbove (order_of ring) y.exponents (take (end - i) (drop i f)) → StartsNotAbove (order_of ring) y.exponents (drop end f)
      → (met : Option ℕ) → met ≡ first_at y.exponents (drop end f)
      → (before during after all : List Term) → during ≡ before ++ take (end - i) (drop i f) → after ≡ during ++ joined ring y.coefficient y.exponents met
      → before ++ canonical ring (drop i f ++ drop j g) ≡ all → after ++ canonical ring (drop (end + count_met met) f ++ drop (j + 1) g) ≡ all
  merge_next f g i end j y a b le get above stops met is before during after all d t s =
      let run : List Term = take (end - i) (drop i f) in
      let h : List Term = drop end f in
      let more : List Term = joined ring y.coefficient y.exponents met in
      let rest : List Term = canonical ring (drop (count_met met) (drop end f) ++ drop (j + 1) g) in
      let split : take (end - i) (drop i f) ++ drop end f ≡ drop i f = drop_parts i end f le in
      let next : drop j g ≡ y ∷ drop (j + 1) g = drop_at g j y get in
      let hf : IsCanonical ring (take (end - i) (drop i f) ++ drop end f) = subst (λ k. IsCanonical ring k) (sym split) (canonical_drop ring i f a) in
      let hg : IsCanonical ring (y ∷ drop (j + 1) g) = subst (λ k. IsCanonical ring k) next (canonical_drop ring j g b) in
      let e = merge_run (take (end - i) (drop i f)) (drop end f) (drop (j + 1) g) y hf hg above in
      let k : canonical ring (drop end f ++ y ∷ drop (j + 1) g) ≡ more ++ rest =
      rw is (merge_joined (drop end f) (drop (j + 1) g) y (canonical_drop ring end f a) hg stops) in
      let whole : canonical ring (drop i f ++ drop j g) ≡ run ++ (more ++ rest) = cc (split, next, e, k) in
      let behind : drop (end + count_met met) f ≡ drop (count_met met) (drop end f) = sym (drop-drop (count_met met) end f) in
      let whole_rest : canonical ring (drop (end + count_met met) f ++ drop (j + 1) g) ≡ rest = ap (λ k. canonical ring (k ++ drop (j + 1) g)) behind in
      let regroup : ((before ++ run) ++ more) ++ rest ≡ before ++ (run ++ (more ++ rest)) = simp append_assoc in
      cc

  -- the end of a merge: the second list is used up
  pub merge_end : (f g : List Term) (i j : ℕ) → IsCanonical ring f → length g ≤ j
      → (before all : List Term) → before ++ canonical ring (drop i f ++ drop j g) ≡ all → before ++ drop i f ≡ all
  merge_end f g i j a l before all s =
      let none : drop j g ≡ [] = drop_all j g l in
      let nil : drop i f ++ drop j g ≡ drop i f = ap (λ h. drop i f ++ h) none ∙ append-nil (drop i f) in
      let itself : canonical ring (drop i f) ≡ drop i f = canonical_itself ring (drop i f) pos (canonical_drop ring i f a) in
      cc
