-- A division makes its dividend a combination of the divisors, plus the remainder, with leads below whatever the dividend is below.
use Rattle.std.proofs.Common.{ℕ, suc, ◌≡◌, ◌+◌, ◌<◌, List, [], ◌∷◌, ◌++◌, length, get_or, drop, refl, ap, ◌∙◌, subst, arith}
use Rattle.std.proofs.Math.Seq.{drop-cons}
use Rattle.cgs_poly.specs.Ring.{Ring}
use Rattle.cgs_poly.specs.Polynomial.{Term, StartsBelow, IsCanonical}
use Rattle.cgs_poly.specs.Product.{multiple, all_products}
use Rattle.cgs_poly.proofs.SumLemmas.{Alike, alike_from_coefficients}
use Rattle.cgs_algebra.specs.Combination.{Summand, summand, combined, IsCombination}
use Rattle.cgs_algebra.specs.Groebner.{leading_monomial_at}
use Rattle.cgs_algebra.specs.SPolynomial.{LeadsBelow}
use Rattle.cgs_algebra.proofs.CombinationLemmas.{combined_append, combination_append, leads_append}
use Rattle.cgs_divide.specs.Division.{products, TermsBelow, MultiplesBelow, HasDivided}
use Rattle.cgs_algebra.proofs.PlaceLemmas.{canonical_at}

-- q times the polynomial at a place
abbrev quotient_summands : List Term → ℕ → List Summand
quotient_summands [] i = []
quotient_summands (x ∷ q) i = summand x.coefficient x.exponents i ∷ quotient_summands q i

-- quotients times the polynomials from a place on
abbrev summands_from : ℕ → List (List Term) → List Summand
summands_from i [] = []
summands_from i (q ∷ quotients) = quotient_summands q i ++ summands_from (suc i) quotients

quotient_combined : (G : List (List Term)) (q : List Term) (i : ℕ) → combined G (quotient_summands q i) ≡ all_products q (get_or G i [])
quotient_combined G [] i = refl
quotient_combined G (x ∷ q) i = ap (λ f. multiple x.coefficient x.exponents (get_or G i []) ++ f) (quotient_combined G q i)

quotient_combination : (ring : Ring) (G : List (List Term)) (q : List Term) (i : ℕ)
    → IsCanonical ring q → i < length G → IsCombination ring G (quotient_summands q i)
quotient_combination ring G [] i h l = tt
quotient_combination ring G (x ∷ q) i h l = (h.2, l, quotient_combination ring G q i h.4 l)

quotient_below : (ring : Ring) (G : List (List Term)) (m : List ℕ) (q : List Term) (i : ℕ)
    → TermsBelow ring m (leading_monomial_at G i) q → LeadsBelow ring G m (quotient_summands q i)
quotient_below ring G m [] i b = tt
quotient_below ring G m (x ∷ q) i b = (b.0, quotient_below ring G m q i b.1)

combined_from : (G : List (List Term)) (i : ℕ) (quotients : List (List Term)) → i + length quotients ≡ length G
    → combined G (summands_from i quotients) ≡ products quotients (drop i G)
combined_from G i [] l = refl
combined_from G i (q ∷ quotients) l =
    let k : i < length G = omega arith in
    rw (drop-cons G i [] k) (combined_append G (quotient_summands q i) (summands_from (suc i) quotients)
    ∙ cc (quotient_combined G q i, combined_from G (suc i) quotients (omega arith)))

combination_from : (ring : Ring) (G : List (List Term)) (i : ℕ) (quotients : List (List Term)) → i + length quotients ≡ length G
    → ((j : ℕ) → j < length quotients → IsCanonical ring (get_or quotients j []))
    → IsCombination ring G (summands_from i quotients)
combination_from ring G i [] l h = tt
combination_from ring G i (q ∷ quotients) l h =
    combination_append ring G (quotient_summands q i) (summands_from (suc i) quotients) (quotient_combination ring G q i (h 0 (omega arith)) (omega arith))
    (combination_from ring G (suc i) quotients (omega arith) (λ j k. h (suc j) (omega arith)))

below_from : (ring : Ring) (G : List (List Term)) (m : List ℕ) (i : ℕ) (quotients : List (List Term)) → i + length quotients ≡ length G
    → MultiplesBelow ring m quotients (drop i G) → LeadsBelow ring G m (summands_from i quotients)
below_from ring G m i [] l b = tt
below_from ring G m i (q ∷ quotients) l b =
    let k : i < length G = omega arith in
    let c : MultiplesBelow ring m (q ∷ quotients) (get_or G i [] ∷ drop (suc i) G) =
    subst (λ H. MultiplesBelow ring m (q ∷ quotients) H) (drop-cons G i [] k) b in
    leads_append ring G m (quotient_summands q i) (summands_from (suc i) quotients)
    (quotient_below ring G m q i c.0) (below_from ring G m (suc i) quotients (omega arith) c.1)

-- the combination that the quotients make
abbrev pub summands_of : List (List Term) → List Summand
summands_of quotients = summands_from 0 quotients

module _ (ring : Ring) (G : List (List Term)) (f remainder : List Term) (quotients : List (List Term)) (d : HasDivided ring G f remainder quotients) where
  pub division_combination : IsCombination ring G (summands_of quotients)
  division_combination = combination_from ring G 0 quotients (omega (arith, d.places)) (canonical_at ring quotients d.canonical_quotients)

  pub division_sum : 0 < ring.modulus → Alike ring.modulus f (combined G (summands_of quotients) ++ remainder)
  division_sum pos = rw (combined_from G 0 quotients (omega (arith, d.places))) (alike_from_coefficients pos d.sum)

  pub division_below : (m : List ℕ) → StartsBelow ring m f → LeadsBelow ring G m (summands_of quotients)
  division_below m s = below_from ring G m 0 quotients (omega (arith, d.places)) (d.below m s).0
