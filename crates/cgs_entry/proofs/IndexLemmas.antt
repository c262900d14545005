-- An index of polynomials: it keeps what it has, gets the key that is put in, and tells what is no member.
use Rattle.std.proofs.Common.{ℕ, zero, suc, ◌≡◌, Bool, true, false, cond, ◌||◌, List, [], ◌∷◌, refl, sym, ap, ◌∙◌}
use Rattle.std.specs.Prelude.{is_some, Some, slice_get}
use Rattle.std.specs.BTreeMap.{insert_entry}
use Rattle.std.specs.Map.{lookup}
use Rattle.std.specs.Ordering.{nat_cmp, is_eq, match_ordering}
use Rattle.std.specs.declared.cmp.Ordering.{Ordering}
use Rattle.std.specs.declared.cmp.Ordering.TheVariants.{Less, Equal, Greater}
use Rattle.std.specs.Cmp.{tied_itself}
use Rattle.std.specs.Cmp.Lexicographic.{slice_cmp, nat_list_cmp_total}
use Rattle.cgs_poly.specs.Polynomial.{Term}
use Rattle.cgs_poly.specs.Same.{same_poly, is_among}
use Rattle.cgs_poly.proofs.SameLemmas.{same_poly_decides, among_all}
use Rattle.cgs_entry.specs.Index.{numbers_of, IsIndexed, AreIndexed}

module _ {K X : Type 0} (cmp : K → K → Ordering) (t : K → Bool) (k : K) (v : X) where
  or_here : (b : Bool) (x : X) (es : List (K × X)) → is_some (lookup t es) ≡ true → is_some (cond b (Some x) (lookup t es)) ≡ true
  or_here true x es h = refl
  or_here false x es h = h

  or_later : (b : Bool) (x y : X) (es fs : List (K × X)) → (is_some (lookup t es) ≡ true → is_some (lookup t fs) ≡ true)
      → is_some (cond b (Some x) (lookup t es)) ≡ true → is_some (cond b (Some y) (lookup t fs)) ≡ true
  or_later true x y es fs g h = refl
  or_later false x y es fs g h = g h

  lookup_kept : (es : List (K × X)) → is_some (lookup t es) ≡ true → is_some (lookup t (insert_entry cmp es k v)) ≡ true
  lookup_kept [] h = or_here (t k) v [] h
  lookup_kept (e ∷ es) h = step (cmp k e.0) (lookup_kept es)
    where
      step : (o : Ordering) → (is_some (lookup t es) ≡ true → is_some (lookup t (insert_entry cmp es k v)) ≡ true)
          → is_some (lookup t (match_ordering o ((k, v) ∷ e ∷ es) ((e.0, v) ∷ es) (e ∷ insert_entry cmp es k v))) ≡ true
      step Less ih = or_here (t k) v (e ∷ es) h
      step Equal ih = or_later (t e.0) e.1 v es es (λ g. g) h
      step Greater ih = or_later (t e.0) e.1 e.1 es (insert_entry cmp es k v) ih h

  module _ (own : t k ≡ true) (same : (q : K) → cmp k q ≡ Equal → t q ≡ true) where
    lookup_new : (es : List (K × X)) → is_some (lookup t (insert_entry cmp es k v)) ≡ true
    lookup_new [] = rw own refl
    lookup_new (e ∷ es) = step (cmp k e.0) refl (lookup_new es)
      where
        step : (o : Ordering) → cmp k e.0 ≡ o → is_some (lookup t (insert_entry cmp es k v)) ≡ true
            → is_some (lookup t (match_ordering o ((k, v) ∷ e ∷ es) ((e.0, v) ∷ es) (e ∷ insert_entry cmp es k v))) ≡ true
        step Less p ih = rw own refl
        step Equal p ih = let s = same e.0 p in rw s refl
        step Greater p ih = or_here (t e.0) e.1 (insert_entry cmp es k v) ih

module _ {K X : Type 0} (items : K → List ℕ) (k : K) (v : X) (es : List (K × X)) where
  abbrev with_key : List (K × X)
  with_key = insert_entry (λ a b. slice_cmp nat_cmp (items a) (items b)) es k v

  pub all_kept : (L : List (List Term)) → AreIndexed es items L → AreIndexed with_key items L
  all_kept [] h = tt
  all_kept (f ∷ L) h = (
    lookup_kept (λ a b. slice_cmp nat_cmp (items a) (items b)) (λ q. is_eq (slice_cmp nat_cmp (numbers_of f) (items q))) k v es h.0,
    all_kept L h.1,
  )

  pub new_indexed : (f : List Term) → items k ≡ numbers_of f → IsIndexed with_key items f
  new_indexed f e = lookup_new (λ a b. slice_cmp nat_cmp (items a) (items b)) (λ q. is_eq (slice_cmp nat_cmp (numbers_of f) (items q))) k v
      (own e) (λ q p. ap is_eq (ap (λ n. slice_cmp nat_cmp n (items q)) (sym e) ∙ p)) es
    where
      own : items k ≡ numbers_of f → is_eq (slice_cmp nat_cmp (numbers_of f) (items k)) ≡ true
      own e = ap is_eq (ap (slice_cmp nat_cmp (numbers_of f)) e ∙ tied_itself nat_list_cmp_total (numbers_of f))

-- a polynomial that is not found is no member
pub not_found : {K X : Type 0} (items : K → List ℕ) (es : List (K × X)) (f : List Term) (L : List (List Term)) → AreIndexed es items L
    → is_some (lookup (λ k. is_eq (slice_cmp nat_cmp (numbers_of f) (items k))) es) ≡ false → false ≡ is_among f L
not_found items es f L h n = step (is_among f L) refl
  where
    step : (b : Bool) → is_among f L ≡ b → false ≡ b
    step true e = let found = among_all (λ g. IsIndexed es items g) f L e h in absurd (cc)
    step false e = refl

-- what stands at a place is a member
pub at_place : (f : List Term) (L : List (List Term)) (i : ℕ) (g : List Term) → slice_get L i ≡ Some g → g ≡ f → true ≡ is_among f L
at_place f [] i g e same = absurd (cc)
at_place f (h ∷ L) zero g e same = let here : h ≡ g = cc in let t = (same_poly_decides f h).1 (sym same ∙ sym here) in rw t refl
at_place f (h ∷ L) (suc i) g e same = step (same_poly f h) (at_place f L i g e same)
  where
    step : (b : Bool) → true ≡ is_among f L → true ≡ (b || is_among f L)
    step true m = refl
    step false m = m
