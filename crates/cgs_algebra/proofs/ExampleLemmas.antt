-- The reduced Gröbner basis of x^2 - 1 and x*y - 1 modulo 7, checked by the criterion, and a list that is none.
use Rattle.std.proofs.Common.{ℕ, zero, suc, ◌≡◌, ◌<◌, true, IsTrue, List, [], ◌∷◌, length, get_or, refl, arith}
use Rattle.cgs_exps.specs.Monomial.{divides}
use Rattle.cgs_order.specs.TermOrder.{key, compared}
use Rattle.cgs_poly.specs.Ring.{Ring}
use Rattle.cgs_poly.specs.Polynomial.{Term, IsOfRing, canonical, SameCoefficients}
use Rattle.cgs_poly.specs.Product.{leading_monomial}
use Rattle.cgs_poly.proofs.SumLemmas.{Alike, alike_back, alike_trans, alike_same, coefficients_from_alike}
use Rattle.cgs_poly.proofs.CanonicalLemmas.{canonical_alike}
use Rattle.cgs_algebra.specs.Combination.{summand, IsMember}
use Rattle.cgs_algebra.specs.Groebner.{AreMonic, IsGroebnerBasis, DividesNone, leading_monomial_at}
use Rattle.cgs_algebra.specs.SPolynomial.{HasLcmRepresentation}
use Rattle.cgs_algebra.specs.Examples.{seven, x_squared_less_one, xy_less_one, x_less_y, y_squared_less_one, generators, basis, ReducedExample}
use Rattle.cgs_algebra.specs.Examples.{ZeroTermIsRefused}
use Rattle.cgs_algebra.proofs.GroebnerLemmas.{complete_groebner}
use Rattle.cgs_algebra.proofs.CriterionLemmas.{coprime_criterion}
use Rattle.cgs_algebra.proofs.PlaceLemmas.{of_two_places}

-- lists of terms with one canonical list have the same coefficients
same_from_canonical : (ring : Ring) (f g : List Term) → 0 < ring.modulus → IsOfRing ring f → IsOfRing ring g → canonical ring f ≡ canonical ring g
    → SameCoefficients ring.modulus f g
same_from_canonical ring f g pos h k e =
    let a : Alike ring.modulus (canonical ring f) (canonical ring g) = rw e (alike_same ring.modulus (canonical ring g)) in
    coefficients_from_alike (alike_trans (alike_back (canonical_alike ring f pos h)) (alike_trans a (canonical_alike ring g pos k)))

positive : 0 < seven.modulus
positive = omega arith

-- x - y = y*(x^2 - 1) - x*(x*y - 1)
x_less_y_member : IsMember seven generators x_less_y
unfolding key compared
x_less_y_member = record {
  summands = summand 1 (0 ∷ 1 ∷ []) 0 ∷ summand 6 (1 ∷ 0 ∷ []) 1 ∷ [];
  combination = (refl, omega arith, (refl, omega arith, tt));
  sum = same_from_canonical seven _ _ positive (refl, (refl, tt)) (refl, (refl, (refl, (refl, tt)))) refl;
}

-- y^2 - 1 = -y^2*(x^2 - 1) + (x*y + 1)*(x*y - 1)
y_squared_less_one_member : IsMember seven generators y_squared_less_one
unfolding key compared
y_squared_less_one_member = record {
  summands = summand 6 (0 ∷ 2 ∷ []) 0 ∷ summand 1 (1 ∷ 1 ∷ []) 1 ∷ summand 1 (0 ∷ 0 ∷ []) 1 ∷ [];
  combination = (refl, omega arith, (refl, omega arith, (refl, omega arith, tt)));
  sum = same_from_canonical seven _ _ positive (refl, (refl, tt)) (refl, (refl, (refl, (refl, (refl, (refl, tt)))))) refl;
}

-- x^2 - 1 = (y^2 - 1) + (x + y)*(x - y)
x_squared_less_one_member : IsMember seven basis x_squared_less_one
unfolding key compared
x_squared_less_one_member = record {
  summands = summand 1 (0 ∷ 0 ∷ []) 0 ∷ summand 1 (1 ∷ 0 ∷ []) 1 ∷ summand 1 (0 ∷ 1 ∷ []) 1 ∷ [];
  combination = (refl, omega arith, (refl, omega arith, (refl, omega arith, tt)));
  sum = same_from_canonical seven _ _ positive (refl, (refl, tt)) (refl, (refl, (refl, (refl, (refl, (refl, tt)))))) refl;
}

-- x*y - 1 = (y^2 - 1) + y*(x - y)
xy_less_one_member : IsMember seven basis xy_less_one
unfolding key compared
xy_less_one_member = record {
  summands = summand 1 (0 ∷ 0 ∷ []) 0 ∷ summand 1 (0 ∷ 1 ∷ []) 1 ∷ [];
  combination = (refl, omega arith, (refl, omega arith, tt));
  sum = same_from_canonical seven _ _ positive (refl, (refl, tt)) (refl, (refl, (refl, (refl, tt)))) refl;
}

-- what holds of the places 0 and 1, both ways, holds of each two places of a list of two
at_pairs : (P : ℕ → ℕ → Type 0) → P 0 1 → P 1 0 → (i j : ℕ) → i < 2 → j < 2 → ¬ (i ≡ j) → P i j
at_pairs P a b zero zero h k n = absurd (n refl)
at_pairs P a b zero (suc zero) h k n = a
at_pairs P a b (suc zero) zero h k n = b
at_pairs P a b (suc zero) (suc zero) h k n = absurd (n refl)
at_pairs P a b i (suc (suc j)) h k n = absurd (omega arith)
at_pairs P a b (suc (suc i)) j h k n = absurd (omega arith)

basis_monic : AreMonic seven basis
unfolding key compared
basis_monic = record {
  canonical = (
    (omega arith, omega arith, refl, refl, (omega arith, omega arith, refl, tt, tt)),
    ((omega arith, omega arith, refl, refl, (omega arith, omega arith, refl, tt, tt)), tt),
  );
  monic = (refl, (refl, tt));
}

-- the one pair has coprime leads
basis_pairs : (i j : ℕ) → i < j → j < length basis → HasLcmRepresentation seven basis i j
basis_pairs zero (suc zero) h k = coprime_criterion seven basis 0 1 positive basis_monic (omega arith) (omega arith) refl
basis_pairs i zero h k = absurd (omega arith)
basis_pairs (suc i) (suc zero) h k = absurd (omega arith)
basis_pairs i (suc (suc j)) h k = absurd (omega arith)

basis_groebner : IsGroebnerBasis seven basis generators
basis_groebner =
    complete_groebner seven basis generators positive basis_monic
    (y_squared_less_one_member, (x_less_y_member, tt)) (x_squared_less_one_member, (xy_less_one_member, tt)) basis_pairs

pub reduced_example : ReducedExample
unfolding key compared
reduced_example = (
  record {
    minimal = record {
      groebner = basis_groebner;
      apart = of_two_places (λ f g. ¬ IsTrue (divides (leading_monomial f) (leading_monomial g))) basis
          (at_pairs (λ i j. ¬ (divides (leading_monomial_at basis i) (leading_monomial_at basis j) ≡ true)) (λ d. cc) (λ d. cc));
    };
    monic = basis_monic;
    reduced = of_two_places (λ f g. DividesNone (leading_monomial f) g) basis
        (at_pairs (λ i j. DividesNone (leading_monomial_at basis i) (get_or basis j [])) (λ d. cc, (λ d. cc, tt)) (λ d. cc, (λ d. cc, tt)));
  },
  (refl, tt),
)

pub zero_term_refused : ZeroTermIsRefused
zero_term_refused F h = absurd (omega (arith, h.canonical.0.0))
