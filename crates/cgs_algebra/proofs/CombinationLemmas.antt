-- Combinations: appended, times a term, and times a number.
use Rattle.std.proofs.Common.{ℕ, ◌≡◌, ◌*◌, List, [], ◌∷◌, ◌++◌, length, get_or, refl, sym, ap, arith, append_assoc}
use Rattle.cgs_exps.specs.Monomial.{product}
use Rattle.cgs_exps.proofs.MonomialLemmas.{product_length}
use Rattle.cgs_poly.specs.Ring.{Ring}
use Rattle.cgs_poly.specs.Polynomial.{Term, places, total}
use Rattle.cgs_poly.specs.Product.{multiple}
use Rattle.cgs_poly.proofs.SumLemmas.{total_append}
use Rattle.cgs_algebra.specs.Combination.{Summand, summand, combined, IsCombination}
use Rattle.cgs_algebra.specs.SPolynomial.{LeadsBelow}
use Rattle.cgs_poly.proofs.ProductLemmas.{total_multiple, multiple_append, multiple_multiple}

-- one after the other

pub combined_append : (F : List (List Term)) (ks ls : List Summand) → combined F (ks ++ ls) ≡ combined F ks ++ combined F ls
combined_append F [] ls = refl
combined_append F (k ∷ ks) ls =
    rw (combined_append F ks ls) (sym (append_assoc (multiple k.coefficient k.monomial (get_or F k.place [])) (combined F ks) (combined F ls)))

pub combination_append : (ring : Ring) (F : List (List Term)) (ks ls : List Summand)
    → IsCombination ring F ks → IsCombination ring F ls → IsCombination ring F (ks ++ ls)
combination_append ring F [] ls h i = i
combination_append ring F (k ∷ ks) ls h i = (h.0, h.1, combination_append ring F ks ls h.2 i)

pub leads_append : (ring : Ring) (F : List (List Term)) (m : List ℕ) (ks ls : List Summand)
    → LeadsBelow ring F m ks → LeadsBelow ring F m ls → LeadsBelow ring F m (ks ++ ls)
leads_append ring F m [] ls h i = i
leads_append ring F m (k ∷ ks) ls h i = (h.0, leads_append ring F m ks ls h.1 i)

-- c*t times a combination

abbrev pub shifted_summands : ℕ → List ℕ → List Summand → List Summand
shifted_summands c t [] = []
shifted_summands c t (k ∷ ks) = summand (c * k.coefficient) (product t k.monomial) k.place ∷ shifted_summands c t ks

pub combined_shifted : (F : List (List Term)) (c : ℕ) (t : List ℕ) (ks : List Summand) → combined F (shifted_summands c t ks) ≡ multiple c t (combined F ks)
combined_shifted F c t [] = refl
combined_shifted F c t (k ∷ ks) =
    let g : List Term = get_or F k.place [] in
    cc (multiple_multiple c k.coefficient t k.monomial g, multiple_append c t (multiple k.coefficient k.monomial g) (combined F ks), combined_shifted F c t ks)

pub combination_shifted : (ring : Ring) (F : List (List Term)) (c : ℕ) (t : List ℕ) (ks : List Summand) → length t ≡ places ring → IsCombination ring F ks
    → IsCombination ring F (shifted_summands c t ks)
combination_shifted ring F c t [] l h = tt
combination_shifted ring F c t (k ∷ ks) l h = (product_length t k.monomial (places ring) l h.0, h.1, combination_shifted ring F c t ks l h.2)

-- c times a combination

abbrev pub scaled_summands : ℕ → List Summand → List Summand
scaled_summands c [] = []
scaled_summands c (k ∷ ks) = summand (c * k.coefficient) k.monomial k.place ∷ scaled_summands c ks

pub total_scaled_summands : (w : List ℕ → ℕ) (F : List (List Term)) (c : ℕ) (ks : List Summand)
    → total w (combined F (scaled_summands c ks)) ≡ c * total w (combined F ks)
total_scaled_summands w F c [] = omega arith
total_scaled_summands w F c (k ∷ ks) =
    let g : List Term = get_or F k.place [] in
    let a = total_append w (multiple (c * k.coefficient) k.monomial g) (combined F (scaled_summands c ks)) in
    let b = total_append w (multiple k.coefficient k.monomial g) (combined F ks) in
    let d = total_multiple w (c * k.coefficient) k.monomial g in
    let e = total_multiple w k.coefficient k.monomial g in
    omega (arith, a, b, rw e at (ap (λ n. c * n) b), d, e, total_scaled_summands w F c ks)

pub combination_scaled : (ring : Ring) (F : List (List Term)) (c : ℕ) (ks : List Summand)
    → IsCombination ring F ks → IsCombination ring F (scaled_summands c ks)
combination_scaled ring F c [] h = tt
combination_scaled ring F c (k ∷ ks) h = (h.0, h.1, combination_scaled ring F c ks h.2)

pub leads_scaled : (ring : Ring) (F : List (List Term)) (m : List ℕ) (c : ℕ) (ks : List Summand)
    → LeadsBelow ring F m ks → LeadsBelow ring F m (scaled_summands c ks)
leads_scaled ring F m c [] h = tt
leads_scaled ring F m c (k ∷ ks) h = (h.0, leads_scaled ring F m c ks h.1)
