-- Where the polynomials of a list are 0, so are those of its ideal.
use Rattle.std.proofs.Common.{ℕ, ◌≡◌, ◌*◌, ◌%◌, ◌<◌, List, [], ◌∷◌, length, get_or, map, sym, ap, ◌∙◌, subst, arith}
use Rattle.std.proofs.Math.Nat.{zero-mod, mul-zero}
use Rattle.std.specs.List.{AllByRecursion}
use Rattle.cgs_list.proofs.ListLemmas.{all_at_place}
use Rattle.cgs_poly.specs.Ring.{Ring}
use Rattle.cgs_poly.specs.Polynomial.{Term, places, IsOfRing}
use Rattle.cgs_poly.specs.Product.{multiple}
use Rattle.cgs_poly.specs.Parameters.{power_at}
use Rattle.cgs_poly.proofs.SumLemmas.{alike_from_coefficients}
use Rattle.cgs_poly.proofs.SpecialisedLemmas.{value_sum, value_multiple}
use Rattle.cgs_algebra.specs.Combination.{Summand, combined, IsCombination, IsMember}
use Rattle.cgs_discover.specs.Laws.{value_of}

pub all_mapped : (P Q : List Term → Type 0) (g : List Term → List Term) (F : List (List Term)) → ((f : List Term) → P f → Q (g f)) → AllByRecursion P F
    → AllByRecursion Q (map g F)
all_mapped P Q g [] k h = tt
all_mapped P Q g (f ∷ F) k h = (k f h.0, all_mapped P Q g F k h.1)

-- of the ring, and 0 at a number for each variable
abbrev pub IsZeroOf : Ring → List ℕ → List Term → Type 0
IsZeroOf ring x f = IsOfRing ring f × (value_of ring x f ≡ 0)

module _ (ring : Ring) (x : List ℕ) where
  -- the same places as parameters: there the numbers are a point
  abbrev flat : Ring
  flat = record { modulus = ring.modulus; variables = 0; parameters = places ring; kind = ring.kind }

  flat_places : places flat ≡ places ring
  flat_places = omega arith

  combined_zero : (F : List (List Term)) → AllByRecursion (IsZeroOf ring x) F → (ks : List Summand) → IsCombination ring F ks
      → value_of ring x (combined F ks) ≡ 0
  combined_zero F z [] h = zero-mod ring.modulus
  combined_zero F z (k ∷ ks) h =
      let g : List Term = get_or F k.place [] in
      let here : IsZeroOf ring x g = all_at_place (IsZeroOf ring x) [] F z k.place h.1 in
      let d : ℕ = k.coefficient * power_at k.monomial x in
      let of_flat : IsOfRing flat g = subst (λ n. AllByRecursion (λ y. length y.exponents ≡ n) g) (sym flat_places) here.0 in
      let first : value_of ring x (multiple k.coefficient k.monomial g) ≡ 0 =
      value_multiple flat x k.coefficient k.monomial g (h.0 ∙ sym flat_places) of_flat
      ∙ (ap (λ n. (d * n) % ring.modulus) here.1 ∙ (ap (λ n. n % ring.modulus) (mul-zero d) ∙ zero-mod ring.modulus)) in
      let rest : value_of ring x (combined F ks) ≡ 0 = combined_zero F z ks h.2 in
      value_sum flat x (multiple k.coefficient k.monomial g) (combined F ks) ∙ rw (first, rest) (zero-mod ring.modulus)

  pub member_zero : (F : List (List Term)) (f : List Term) → 0 < ring.modulus → AllByRecursion (IsZeroOf ring x) F → IsMember ring F f
      → value_of ring x f ≡ 0
  member_zero F f pos z m = (alike_from_coefficients pos m.sum).under (λ n. power_at n x) ∙ combined_zero F z m.summands m.combination
