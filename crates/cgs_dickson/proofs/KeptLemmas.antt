-- The steps by which a member is tested against the others, and the list of those that are kept.
use Rattle.std.proofs.Common.{ℕ, ◌≡◌, ◌+◌, Bool, true, false, not, cond, ◌&&◌, ◌||◌, Some, List, [], ◌∷◌, ◌++◌, take, drop, filter, bytes_eq, refl, sym, ap}
use Rattle.std.proofs.Common.{◌∙◌, subst}
use Rattle.std.specs.Prelude.{slice_get}
use Rattle.std.specs.List.{AllByRecursion}
use Rattle.std.specs.Ordering.{is_lt}
use Rattle.std.proofs.lemmas.List.Elements.{filter_more}
use Rattle.std.proofs.lemmas.List.{append-nil}
use Rattle.std.proofs.lemmas.Option.{slice_get_within, get_or_from_slice_get}
use Rattle.cgs_order.specs.TermOrder.{compared}
use Rattle.cgs_poly.specs.Ring.{Ring}
use Rattle.cgs_poly.specs.Polynomial.{Term, order_of}
use Rattle.cgs_poly.specs.Product.{leading_monomial}
use Rattle.cgs_poly.specs.Parameters.{lead_x}
use Rattle.cgs_list.proofs.ListLemmas.{drop_at, all_at, all_push}
use Rattle.cgs_dickson.specs.Dickson.{properly_divides, has_minimal_lead_x, has_least_lead}

-- g is kept by all of G
abbrev pub stays : Ring → List (List Term) → List Term → Bool
stays ring G g = has_minimal_lead_x ring G g && has_least_lead ring G g

-- h excludes g
abbrev excluded_by : Ring → List Term → List Term → Bool
excluded_by ring h g =
    properly_divides (lead_x ring h) (lead_x ring g) ||
    (bytes_eq (lead_x ring h) (lead_x ring g) && is_lt (compared (order_of ring) (leading_monomial h) (leading_monomial g)))

nothing_left : (b : Bool) → (b && false) ≡ false
nothing_left true = refl
nothing_left false = refl

first_test : (a b m l : Bool) → (a || b) ≡ false → ((not a && m) && (not b && l)) ≡ (m && l)
first_test false false m l e = refl
first_test false true m l e = absurd (cc)
first_test true b m l e = absurd (cc)

first_fails : (a b m l : Bool) → (a || b) ≡ true → ((not a && m) && (not b && l)) ≡ false
first_fails true b m l e = refl
first_fails false true m l e = nothing_left m
first_fails false false m l e = absurd (cc)

module _ (ring : Ring) (G : List (List Term)) (g h : List Term) (i : ℕ) (get : slice_get G i ≡ Some h) where
  pub stays_later : excluded_by ring h g ≡ false → stays ring (drop (i + 1) G) g ≡ stays ring (drop i G) g
  stays_later e =
      let a : Bool = properly_divides (lead_x ring h) (lead_x ring g) in
      let b : Bool = bytes_eq (lead_x ring h) (lead_x ring g) && is_lt (compared (order_of ring) (leading_monomial h) (leading_monomial g)) in
      sym (ap (λ L. stays ring L g) (drop_at G i h get)
      ∙ first_test a b (has_minimal_lead_x ring (drop (i + 1) G) g) (has_least_lead ring (drop (i + 1) G) g) e)

  pub stays_not : excluded_by ring h g ≡ true → stays ring (drop i G) g ≡ false
  stays_not e =
      let a : Bool = properly_divides (lead_x ring h) (lead_x ring g) in
      let b : Bool = bytes_eq (lead_x ring h) (lead_x ring g) && is_lt (compared (order_of ring) (leading_monomial h) (leading_monomial g)) in
      ap (λ L. stays ring L g) (drop_at G i h get) ∙ first_fails a b (has_minimal_lead_x ring (drop (i + 1) G) g) (has_least_lead ring (drop (i + 1) G) g) e

-- one item more of a filtered list
filter_next : {X : Type 0} (p : X → Bool) (xs : List X) (i : ℕ) (x : X) → slice_get xs i ≡ Some x
    → filter p (take (i + 1) xs) ≡ filter p (take i xs) ++ cond (p x) (x ∷ []) []
filter_next p xs i x e =
    filter_more p xs i x (slice_get_within xs i x e) ∙ ap (λ y. filter p (take i xs) ++ cond (p y) (y ∷ []) []) (get_or_from_slice_get xs i x x e)

pub filter_passed : {X : Type 0} (p : X → Bool) (xs : List X) (i : ℕ) (x : X) → slice_get xs i ≡ Some x
    → p x ≡ true → filter p (take i xs) ++ x ∷ [] ≡ filter p (take (i + 1) xs)
filter_passed p xs i x e q = sym (filter_next p xs i x e ∙ ap (λ b. filter p (take i xs) ++ cond b (x ∷ []) []) q)

pub filter_failed : {X : Type 0} (p : X → Bool) (xs : List X) (i : ℕ) (x : X) → slice_get xs i ≡ Some x
    → p x ≡ false → filter p (take i xs) ≡ filter p (take (i + 1) xs)
filter_failed p xs i x e q = sym (filter_next p xs i x e ∙ (ap (λ b. filter p (take i xs) ++ cond b (x ∷ []) []) q ∙ append-nil (filter p (take i xs))))

-- what holds of each member holds of each that is kept
pub each_kept : (P : List Term → Type 0) (G kept more : List (List Term)) (i : ℕ) (g : List Term)
    → slice_get G i ≡ Some g → AllByRecursion P G → more ≡ kept ++ g ∷ []
    → AllByRecursion P kept → AllByRecursion P more
each_kept P G kept more i g get all e h = subst (λ L. AllByRecursion P L) (sym e) (all_push P kept g h (all_at P G i g all get))
