-- What holds of each member of a list, of some member, and of each two, at their places.
use Rattle.std.proofs.Common.{ℕ, zero, suc, ◌≡◌, ◌<◌, ◌⊎◌, inl, inr, IsTrue, List, [], ◌∷◌, length, get_or, sym, ◌∙◌, subst, arith}
use Rattle.std.proofs.lemmas.Bool.{cases_order}
use Rattle.std.proofs.lemmas.List.{get_or_default}
use Rattle.std.specs.List.{AllByRecursion, AllPairs, Contains}
use Rattle.cgs_list.proofs.ListLemmas.{all_at_place}
use Rattle.cgs_exps.specs.Monomial.{divides}
use Rattle.cgs_poly.specs.Ring.{Ring}
use Rattle.cgs_poly.specs.Polynomial.{Term, IsOfRing, IsCanonical}
use Rattle.cgs_poly.specs.Product.{leading_monomial, leading_coefficient}
use Rattle.cgs_poly.specs.Parameters.{lead_x}
use Rattle.cgs_poly.proofs.CanonicalLemmas.{canonical_of_ring}
use Rattle.cgs_algebra.specs.Combination.{IsMember}
use Rattle.cgs_algebra.specs.Groebner.{SomeLeadDivides, HaveLeadsApart, leading_monomial_at}
use Rattle.cgs_algebra.specs.Stability.{SomeLeadXDivides}

-- two things that hold of each member, together
pub all_both : (P Q : List Term → Type 0) (G : List (List Term)) → AllByRecursion P G → AllByRecursion Q G → AllByRecursion (λ g. P g × Q g) G
all_both P Q [] h k = tt
all_both P Q (g ∷ G) h k = ((h.0, k.0), all_both P Q G h.1 k.1)

-- what holds of each member, at its place

pub canonical_at : (ring : Ring) (G : List (List Term)) → AllByRecursion (IsCanonical ring) G → (i : ℕ) → i < length G → IsCanonical ring (get_or G i [])
canonical_at ring G = all_at_place (IsCanonical ring) [] G

pub of_ring_at : (ring : Ring) (G : List (List Term)) → AllByRecursion (IsCanonical ring) G → (i : ℕ) → i < length G → IsOfRing ring (get_or G i [])
of_ring_at ring G h i l = canonical_of_ring ring (get_or G i []) (canonical_at ring G h i l)

pub member_at : (ring : Ring) (F G : List (List Term)) → AllByRecursion (IsMember ring F) G → (i : ℕ) → i < length G → IsMember ring F (get_or G i [])
member_at ring F G = all_at_place (IsMember ring F) [] G

pub not_zero_at : (G : List (List Term)) → AllByRecursion (λ g. ¬ (g ≡ [])) G → (i : ℕ) → i < length G → ¬ (get_or G i [] ≡ [])
not_zero_at = all_at_place (λ g. ¬ (g ≡ [])) []

pub monic_at : (G : List (List Term)) → AllByRecursion (λ g. leading_coefficient g ≡ 1) G → (i : ℕ) → i < length G → leading_coefficient (get_or G i []) ≡ 1
monic_at = all_at_place (λ g. leading_coefficient g ≡ 1) []

-- the place of a member

pub place_of_member : (G : List (List Term)) (f : List Term) → Contains G f → (i : ℕ) × (i < length G) × (get_or G i [] ≡ f)
place_of_member G f h = (h.0, h.1, get_or_default G h.0 [] f h.1 ∙ h.2)

-- the place of a lead that divides m

pub lead_place : (G : List (List Term)) (m : List ℕ) → SomeLeadDivides G m → (i : ℕ) × (i < length G) × IsTrue (divides (leading_monomial_at G i) m)
lead_place G m h =
    let at : h.1 ≡ get_or G h.0 [] = sym (get_or_default G h.0 [] h.1 h.2 ∙ h.3) in
    (h.0, h.2, subst (λ g. IsTrue (divides (leading_monomial g) m)) at h.4)

-- of a list of one
pub only_lead : (g : List Term) (m : List ℕ) → SomeLeadDivides (g ∷ []) m → IsTrue (divides (leading_monomial g) m)
only_lead g m h = let i = lead_place (g ∷ []) m h in at_first i.0 i.1 i.2
  where
    at_first : (i : ℕ) → i < 1 → IsTrue (divides (leading_monomial_at (g ∷ []) i) m) → IsTrue (divides (leading_monomial g) m)
    at_first zero l d = d
    at_first (suc i) l d = absurd (omega arith)

pub lead_at_place : (G : List (List Term)) (m : List ℕ) (i : ℕ) → i < length G → IsTrue (divides (leading_monomial_at G i) m) → SomeLeadDivides G m
lead_at_place G m i l d = (i, get_or G i [], l, get_or_default G i (get_or G i []) [] l, d)

pub lead_x_place : (ring : Ring) (G : List (List Term)) (m : List ℕ) → SomeLeadXDivides ring G m
    → (i : ℕ) × (i < length G) × IsTrue (divides (lead_x ring (get_or G i [])) m)
lead_x_place ring G m h =
    let at : h.1 ≡ get_or G h.0 [] = sym (get_or_default G h.0 [] h.1 h.2 ∙ h.3) in
    (h.0, h.2, subst (λ g. IsTrue (divides (lead_x ring g) m)) at h.4)

-- a relation that holds of each two members both ways, at any two places

pub two_places : (R : List Term → List Term → Type 0) (G : List (List Term)) → AllPairs (λ f g. R f g × R g f) G
    → (i j : ℕ) → i < length G → j < length G → ¬ (i ≡ j) → R (get_or G i []) (get_or G j [])
two_places R G both i j hi hj other = by_order (cases_order i j)
  where
    by_order : (i ≡ j) ⊎ ((i < j) ⊎ (j < i)) → R (get_or G i []) (get_or G j [])
    by_order (inl e) = absurd (other e)
    by_order (inr (inl l)) = (both i j [] l hj).0
    by_order (inr (inr l)) = (both j i [] l hi).1

pub leads_apart : (G : List (List Term)) → AllPairs HaveLeadsApart G
    → (i j : ℕ) → i < length G → j < length G → ¬ (i ≡ j) → ¬ IsTrue (divides (leading_monomial_at G i) (leading_monomial_at G j))
leads_apart = two_places (λ f g. ¬ IsTrue (divides (leading_monomial f) (leading_monomial g)))

pub of_two_places : (R : List Term → List Term → Type 0) (G : List (List Term))
    → ((i j : ℕ) → i < length G → j < length G → ¬ (i ≡ j) → R (get_or G i []) (get_or G j [])) → AllPairs (λ f g. R f g × R g f) G
of_two_places R G each i j d l hj =
    let hi : i < length G = omega (arith, l, hj) in
    let at_i : get_or G i [] ≡ get_or G i d = get_or_default G i [] d hi in
    let at_j : get_or G j [] ≡ get_or G j d = get_or_default G j [] d hj in (
      subst (λ f. R f (get_or G j d)) at_i (subst (λ g. R (get_or G i []) g) at_j (each i j hi hj (λ e. omega (arith, e, l)))),
      subst (λ f. R f (get_or G i d)) at_j (subst (λ g. R (get_or G j []) g) at_i (each j i hj hi (λ e. omega (arith, e, l)))),
    )
