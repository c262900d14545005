-- The polynomial 1, and what it becomes at a point.
use Rattle.std.proofs.Common.{ℕ, ◌≡◌, ◌+◌, ◌*◌, ◌%◌, ◌<◌, true, List, [], ◌∷◌, take, drop, replicate, sym, ap, ◌∙◌, subst, arith}
use Rattle.std.proofs.Math.Nat.{add-zero, one-mul, mod-eq_of_lt}
use Rattle.std.proofs.lemmas.List.{length-replicate, take-replicate, drop-replicate}
use Rattle.cgs_exps.specs.Monomial.{divides}
use Rattle.cgs_order.proofs.OrderLemmas.{cmp_self}
use Rattle.cgs_poly.specs.Ring.{Ring}
use Rattle.cgs_poly.specs.Polynomial.{Term, places, total, one}
use Rattle.cgs_poly.specs.Product.{leading_monomial}
use Rattle.cgs_poly.specs.Parameters.{power_at, value_at, variables_ring, without_variables, lc_x, specialised}
use Rattle.cgs_poly.proofs.SumLemmas.{Alike}
use Rattle.cgs_poly.proofs.OneLemmas.{one_canonical}
use Rattle.cgs_poly.proofs.SpecialisedLemmas.{power_zeros}
use Rattle.cgs_algebra.specs.Combination.{IsMember}
use Rattle.cgs_algebra.specs.Specialisation.{specialised_list}
use Rattle.cgs_algebra.proofs.OneLemmas.{divides_by_one}
use Rattle.cgs_algebra.proofs.PlaceLemmas.{lead_at_place}
use Rattle.cgs_algebra.proofs.PointLemmas.{total_specialised}
use Rattle.cgs_algebra.proofs.SpecialisedBasisLemmas.{specialised_canonical, specialised_not_zero, specialised_lead}
use Rattle.cgs_algebra.proofs.PartLemmas.{without_drop}
use Rattle.cgs_entry.specs.Entries.{IsBasisAt}

module _ (ring : Ring) where
  abbrev zeros : List ℕ
  zeros = replicate {A = ℕ} (places ring) 0

  zeros_variables : take ring.variables zeros ≡ replicate ring.variables 0
  zeros_variables = take-replicate ring.variables (places ring) 0 (omega arith)

  zeros_power : (a : List ℕ) → power_at (drop ring.variables zeros) a ≡ 1
  zeros_power a = ap (λ m. power_at m a) (drop-replicate ring.variables (places ring) 0 ∙ ap (λ n. replicate {A = ℕ} n 0) (omega arith))
      ∙ power_zeros ring.parameters a

  module _ (a : List ℕ) (two : 1 < ring.modulus) where
    abbrev pos : 0 < ring.modulus
    pos = omega (arith, two)

    one_leading : ¬ (value_at ring a (lc_x ring (one ring)) ≡ 0)
    one_leading z = omega (arith, sym (ap (λ n. n % ring.modulus) value ∙ mod-eq_of_lt two) ∙ z)
      where
        value : total (λ m. power_at (drop ring.variables m) a) (lc_x ring (one ring)) ≡ 1
        value = rw (cmp_self (take ring.variables zeros)) (omega (arith, without))
          where
            without : power_at (drop ring.variables (without_variables ring zeros)) a ≡ 1
            without = ap (λ m. power_at m a) (without_drop ring zeros) ∙ zeros_power a

    pub one_special_total : (w : List ℕ → ℕ) → total w (specialised ring a (one ring)) % ring.modulus ≡ w (replicate ring.variables 0) % ring.modulus
    one_special_total w =
        let v : ℕ = w (replicate ring.variables 0) in
        let e : 1 * (power_at (drop ring.variables zeros) a * w (take ring.variables zeros)) + 0 ≡ v =
        add-zero (1 * (power_at (drop ring.variables zeros) a * w (take ring.variables zeros)))
        ∙ (one-mul (power_at (drop ring.variables zeros) a * w (take ring.variables zeros))
        ∙ (ap (λ n. n * w (take ring.variables zeros)) (zeros_power a) ∙ (one-mul (w (take ring.variables zeros)) ∙ ap w zeros_variables))) in
        total_specialised ring a w (one ring) pos (length-replicate {A = ℕ} (places ring) 0, tt) ∙ ap (λ n. n % ring.modulus) e

    -- 1 becomes 1
    pub one_special : Alike ring.modulus (one (variables_ring ring)) (specialised ring a (one ring))
    one_special = record {
      under = λ w.
          let e : 1 * w (replicate (ring.variables + 0) 0) + 0 ≡ w (replicate ring.variables 0) =
          add-zero (1 * w (replicate (ring.variables + 0) 0))
          ∙ (one-mul (w (replicate (ring.variables + 0) 0)) ∙ ap (λ n. w (replicate n 0)) (add-zero ring.variables)) in
          ap (λ n. n % ring.modulus) e ∙ sym (one_special_total w);
    }

    one_special_lead : leading_monomial (specialised ring a (one ring)) ≡ replicate ring.variables 0
    one_special_lead = specialised_lead ring a pos (one ring) (one_canonical ring two) one_leading ∙ zeros_variables

    abbrev ones : List (List Term)
    ones = specialised ring a (one ring) ∷ []

    -- where 1 is in the ideal it is a minimal Gröbner basis of it
    pub one_basis : (F : List (List Term)) → IsMember (variables_ring ring) (specialised_list ring a F) (specialised ring a (one ring))
        → IsBasisAt ring a F (one ring ∷ [])
    one_basis F m = record {
      leading = (one_leading, tt);
      minimal = record {
        groebner = record {
          canonical = (specialised_canonical ring a pos (one ring) (one_canonical ring two) one_leading, tt);
          members = (m, tt);
          not_zero = (specialised_not_zero ring a pos (one ring) (one_canonical ring two) one_leading, tt);
          leads = λ f k h some.
              lead_at_place ones (leading_monomial f) 0 (omega arith)
              (subst (λ l. divides l (leading_monomial f) ≡ true) (sym one_special_lead) (divides_by_one ring.variables (leading_monomial f)));
        };
        apart = λ i j d l k. absurd (omega (arith, l, k));
      };
    }
