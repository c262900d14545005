-- The term at a place of a list: what is behind it, and what holds of it.
use Rattle.std.proofs.Common.{ℕ, zero, suc, ◌≡◌, ◌+◌, ◌-◌, ◌<◌, ◌≤◌, max, Bool, true, false, Option, Some, None, cond, List, [], ◌∷◌, length, take, drop, refl}
use Rattle.std.proofs.Common.{ap, subst, arith, add-one}
use Rattle.std.specs.Prelude.{slice_get, IfSome}
use Rattle.std.specs.declared.cmp.Ordering.{Ordering}
use Rattle.std.specs.declared.cmp.Ordering.TheVariants.{Less, Equal, Greater}
use Rattle.std.specs.Ordering.{nat_cmp, is_eq}
use Rattle.std.specs.Cmp.Lexicographic.{slice_cmp}
use Rattle.cgs_list.proofs.ListLemmas.{take_next_from, drop_at, all_push}
use Rattle.cgs_order.specs.declared.block.BlockOrder.{BlockOrder}
use Rattle.cgs_order.specs.TermOrder.{compared}
use Rattle.cgs_order.proofs.OrderLemmas.{cmp_self, cmp_equal}
use Rattle.cgs_terms.specs.declared.ring.Ring.{Ring}
use Rattle.cgs_terms.specs.Polynomial.{Term, term, places, IsCanonical}
use Rattle.cgs_exps.specs.Monomial.{degree}
use Rattle.cgs_terms.specs.Product.{top_degree}
use Rattle.cgs_terms.specs.Draft.{HaveLength}
use Rattle.cgs_terms.specs.Merge.{AreAbove, StartsNotAbove, first_at, changed, EachTerm}

some_same : (x y : Term) → ◌≡◌ {A = Option Term} (Some x) (Some y) → x ≡ y
some_same x y e = cc

pub length_at : (p i : ℕ) (f : List Term) (x : Term) → HaveLength p f → slice_get f i ≡ Some x → length x.exponents ≡ p
length_at p i [] x h e = absurd (cc)
length_at p zero (y ∷ f) x h e = let s : y ≡ x = some_same y x e in rw (← s) h.0
length_at p (suc i) (y ∷ f) x h e = length_at p i f x h.1 e

pub each_at : (P : ℕ → List ℕ → Type 0) (i : ℕ) (f : List Term) (x : Term) → EachTerm P f → slice_get f i ≡ Some x → P x.coefficient x.exponents
each_at P i [] x h e = absurd (cc)
each_at P zero (y ∷ f) x h e = subst (λ (z : Term). P z.coefficient z.exponents) (some_same y x e) h.0
each_at P (suc i) (y ∷ f) x h e = each_at P i f x h.1 e

-- what is behind a place of a canonical list

pub canonical_drop : (ring : Ring) (i : ℕ) (f : List Term) → IsCanonical ring f → IsCanonical ring (drop i f)
canonical_drop ring zero f h = h
canonical_drop ring (suc i) [] h = tt
canonical_drop ring (suc i) (x ∷ f) h = canonical_drop ring i f h.4

-- what a term of a canonical list is
pub record IsTermOf (ring : Ring) (x : Term) : Type 0 where
  pub positive : 0 < x.coefficient
  pub below : x.coefficient < ring.modulus
  pub places : length x.exponents ≡ places ring

pub canonical_at : (ring : Ring) (i : ℕ) (f : List Term) (x : Term) → IsCanonical ring f → slice_get f i ≡ Some x → IsTermOf ring x
canonical_at ring i [] x h e = absurd (cc)
canonical_at ring zero (y ∷ f) x h e = subst (λ (z : Term). IsTermOf ring z) (some_same y x e) (record { positive = h.0; below = h.1; places = h.2 })
canonical_at ring (suc i) (y ∷ f) x h e = canonical_at ring i f x h.4 e

pub canonical_length : (ring : Ring) (f : List Term) → IsCanonical ring f → HaveLength (places ring) f
canonical_length ring [] h = tt
canonical_length ring (x ∷ f) h = (h.2, canonical_length ring f h.4)

pub canonical_rows : (ring : Ring) (p : ℕ) (f g : List Term) → p ≡ places ring → g ≡ f → IsCanonical ring f → HaveLength p g
canonical_rows ring p f g e d h = rw (e, d) (canonical_length ring f h)

-- a front that is above m

pub above_more : (order : BlockOrder) (m : List ℕ) (from i : ℕ) (f : List Term) (x : Term) → from ≤ i → slice_get f i ≡ Some x
    → compared order x.exponents m ≡ Greater → AreAbove order m (take (i - from) (drop from f)) → AreAbove order m (take (i + 1 - from) (drop from f))
above_more order m from i f x l e g h = rw (take_next_from from i f x l e) (all_push (λ y. compared order y.exponents m ≡ Greater) _ x h g)

pub stops_at : (order : BlockOrder) (m : List ℕ) (i : ℕ) (f : List Term) (x : Term) → slice_get f i ≡ Some x
    → (compared order x.exponents m ≡ Greater → ⊥) → StartsNotAbove order m (drop i f)
stops_at order m i f x e n = rw (drop_at f i x e) n

-- the first coefficient

pub first_found : (m : List ℕ) (i c : ℕ) (f : List Term) (n : List ℕ) → slice_get f i ≡ Some (term c n) → n ≡ m → Some c ≡ first_at m (drop i f)
first_found m i c f n e s = rw (drop_at f i (term c n) e, s, cmp_self m) refl

pub first_other : (m : List ℕ) (i c : ℕ) (f : List Term) (n : List ℕ) → slice_get f i ≡ Some (term c n)
    → (n ≡ m → ⊥) → ◌≡◌ {A = Option ℕ} None (first_at m (drop i f))
first_other m i c f n e d = rw (drop_at f i (term c n) e) (step (slice_cmp nat_cmp n m) refl)
  where
    step : (o : Ordering) → slice_cmp nat_cmp n m ≡ o → ◌≡◌ {A = Option ℕ} None (cond (is_eq o) (Some c) None)
    step Less q = refl
    step Equal q = absurd (d (cmp_equal n m q))
    step Greater q = refl

pub met_below : (ring : Ring) (m : List ℕ) (f : List Term) → IsCanonical ring f → IfSome (first_at m f) (λ d. d < ring.modulus)
met_below ring m [] h = tt
met_below ring m (x ∷ f) h = step (is_eq (slice_cmp nat_cmp x.exponents m))
  where
    step : (b : Bool) → IfSome (cond b (Some x.coefficient) None) (λ d. d < ring.modulus)
    step true = h.1
    step false = tt

-- changed terms

pub changed_get : (a : ℕ → ℕ) (b : List ℕ → List ℕ) (g : List Term) (j : ℕ) (x : Term) → slice_get g j ≡ Some x
    → slice_get (changed a b g) j ≡ Some (term (a x.coefficient) (b x.exponents))
changed_get a b [] j x e = absurd (cc)
changed_get a b (y ∷ g) zero x e = ap (λ (z : Term). Some (term (a z.coefficient) (b z.exponents))) (some_same y x e)
changed_get a b (y ∷ g) (suc j) x e = changed_get a b g j x e

pub changed_at : (a : ℕ → ℕ) (b : List ℕ → List ℕ) (g : List Term) (j : ℕ) (x : Term) (c : ℕ) (m : List ℕ) → slice_get g j ≡ Some x
    → c ≡ a x.coefficient → m ≡ b x.exponents → slice_get (changed a b g) j ≡ Some (term c m)
changed_at a b g j x c m e p q = rw (p, q) (changed_get a b g j x e)

pub changed_length : (a : ℕ → ℕ) (b : List ℕ → List ℕ) (g : List Term) → length (changed a b g) ≡ length g
changed_length a b [] = refl
changed_length a b (y ∷ g) = ap suc (changed_length a b g)

pub changed_not : (g : List Term) → changed (λ c. c) (λ m. m) g ≡ g
changed_not [] = refl
changed_not (y ∷ g) = ap (λ h. y ∷ h) (changed_not g)

pub each_trivial : (f : List Term) → EachTerm (λ c m. Unit {0}) f
each_trivial [] = tt
each_trivial (x ∷ f) = (tt, each_trivial f)

pub each_so : (P : Type 0) → P → (f : List Term) → EachTerm (λ c m. P) f
each_so P h [] = tt
each_so P h (x ∷ f) = (h, each_so P h f)

pub canonical_short : (ring : Ring) (f : List Term) → places ring ≤ 17 → IsCanonical ring f → EachTerm (λ c m. length m ≤ 17) f
canonical_short ring [] l h = tt
canonical_short ring (x ∷ f) l h = (omega (arith, h.2), canonical_short ring f l h.4)

-- the greatest degree of a front

pub top_more : (f : List Term) (i : ℕ) (x : Term) → slice_get f i ≡ Some x → top_degree (take (i + 1) f) ≡ max (top_degree (take i f)) (degree x.exponents)
top_more [] i x e = absurd (cc)
top_more (y ∷ f) zero x e = let s : y ≡ x = some_same y x e in rw s (omega arith)
top_more (y ∷ f) (suc i) x e = rw add-one (omega (arith, rw add-one at (top_more f i x e)))

pub top_at : (f : List Term) (i : ℕ) (x : Term) → slice_get f i ≡ Some x → degree x.exponents ≤ top_degree f
top_at [] i x e = absurd (cc)
top_at (y ∷ f) zero x e = let s : y ≡ x = some_same y x e in rw (← s) (omega arith)
top_at (y ∷ f) (suc i) x e = omega (arith, top_at f i x e)

pub take_one : (f : List Term) (i n : ℕ) (x : Term) → slice_get f i ≡ Some x → n ≡ 1 → take n (drop i f) ≡ x ∷ []
take_one f i n x e q = rw (q, drop_at f i x e) refl
