-- From the count to the answer.
use Rattle.std.proofs.Common.{ℕ, zero, suc, ◌≡◌, ◌+◌, ◌-◌, ◌<◌, ◌≤◌, inl, inr, min, nat_le, Bool, true, false, not, cond, List, [], length, refl, sym, ap}
use Rattle.std.proofs.Common.{subst, arith}
use Rattle.std.proofs.lemmas.Bool.{and_parts, le-leb, lt-leb, leb-true, leb-false, both_ways, cases_order}
use Rattle.std.proofs.lemmas.List.Sums.{length-filter}
use Rattle.cgs_report.specs.declared.standard.Standard.{Standard}
use Rattle.cgs_report.specs.declared.standard.Standard.TheVariants.{NotFinite, Many, Count}
use Rattle.cgs_report.specs.Standard.{has_divisor, IsStandard, HasExactly}
use Rattle.cgs_report.specs.Box.{has_power, have_powers, box, standard_monomials, most_counted, counted, standard_of}
use Rattle.cgs_report.specs.Laws.{HavePlaces, Tells}
use Rattle.cgs_report.specs.Walk.{standard_after}
use Rattle.cgs_report.proofs.BoxLemmas.{finite_box, finite_powers}

pub powers_at : (L : List (List ℕ)) (i k j : ℕ) → have_powers L i k ≡ true → i ≤ j → j < i + k → has_power j L ≡ true
powers_at L i zero j h l m = absurd (omega arith)
powers_at L i (suc k) j h l m =
    let parts = and_parts _ _ h in
    elim (cases_order i j) [
      | inl q ↦ subst (λ c. has_power c L ≡ true) q parts.0
      | inr q ↦ elim q [ inl r ↦ powers_at L (i + 1) k j parts.1 (omega arith) (omega arith) | inr r ↦ absurd (omega arith) ]
    ]

pub powers_from : (L : List (List ℕ)) (i k : ℕ) → ((j : ℕ) → i ≤ j → j < i + k → has_power j L ≡ true) → have_powers L i k ≡ true
powers_from L i zero h = refl
powers_from L i (suc k) h =
    let a : has_power i L ≡ true = h i (omega arith) (omega arith) in
    let b = powers_from L (i + 1) k (λ j l m. h j (omega arith) (omega arith)) in
    rw a b

module _ (n : ℕ) (L : List (List ℕ)) (h : HavePlaces n L) where
  abbrev number : ℕ
  number = length (standard_monomials n L)

  -- what is to be told is so
  pub standard_tells : Tells (IsStandard n L) (standard_of n L)
  standard_tells = by_powers (have_powers L 0 n) refl
    where
      by_count : HasExactly (IsStandard n L) (standard_monomials n L) → (b : Bool) → nat_le number most_counted ≡ b
          → Tells (IsStandard n L) (cond b (Count number) Many)
      by_count by_box true t = (standard_monomials n L, by_box, refl, leb-true number most_counted t)
      by_count by_box false t = (standard_monomials n L, by_box, leb-false number most_counted t)

      by_powers : (b : Bool) → have_powers L 0 n ≡ b → Tells (IsStandard n L) (cond b (counted number) NotFinite)
      by_powers true e =
          by_count (finite_box n L h (λ j l. powers_at L 0 n j e (omega arith) (omega arith))) (nat_le number most_counted) refl
      by_powers false e = λ f. both_ways _ e (powers_from L 0 n (λ j l m. finite_powers n L h f j (omega arith)))

  -- an answer that is that one
  pub told : (s : Standard) → s ≡ standard_of n L → Tells (IsStandard n L) s
  told s e = subst (λ t. Tells (IsStandard n L) t) (sym e) standard_tells

  pub is_not_finite : have_powers L 0 n ≡ false → NotFinite ≡ standard_of n L
  is_not_finite e = rw e refl

  counted_number : number ≡ standard_after L [] (box L 0 n)
  counted_number = length-filter (λ m. not (has_divisor L m)) (box L 0 n)

  module _ (powers : have_powers L 0 n ≡ true) (count : ℕ) (e : count ≡ min (0 + standard_after L [] (box L 0 (n - 0))) (most_counted + 1)) where
    least : count ≡ min number (most_counted + 1)
    least =
        let z : n - 0 ≡ n = omega arith in
        let a : count ≡ min (0 + standard_after L [] (box L 0 (n - 0))) (most_counted + 1) = e in
        let b = counted_number in
        let c = rw z at a in
        omega (arith, b, c)

    pub is_many : most_counted < count → Many ≡ standard_of n L
    is_many m =
        let a = least in
        let l : most_counted < number = omega (arith, a) in
        let t = lt-leb number most_counted l in
        rw (powers, t) refl

    pub is_count : count ≤ most_counted → Count count ≡ standard_of n L
    is_count m =
        let a : count ≡ number = let b = least in omega (arith, b) in
        let t = le-leb number most_counted (let l : count ≤ most_counted = m in omega (arith, a)) in
        rw (powers, t) (ap Count a)
