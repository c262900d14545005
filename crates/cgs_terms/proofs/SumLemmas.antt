-- Sums of terms, and when two lists of terms stand for one sum: under every weight of the monomials they come to one number.
use Rattle.std.proofs.Common.{ℕ, zero, suc, ◌≡◌, ◌+◌, ◌-◌, ◌*◌, ◌%◌, ◌<◌, ◌≤◌, Bool, true, false, cond, List, [], ◌∷◌, ◌++◌, length, refl, sym, ap, ◌∙◌, arith}
use Rattle.std.proofs.Math.Nat.{zero-mod, zero-mul}
use Rattle.std.specs.Cmp.Lexicographic.{slice_cmp}
use Rattle.std.specs.declared.cmp.Ordering.{Ordering}
use Rattle.std.specs.declared.cmp.Ordering.TheVariants.{Less, Equal, Greater}
use Rattle.std.specs.Ordering.{nat_cmp, is_eq}
use Rattle.cgs_field.proofs.ModularLemmas.{mod_add, mod_mul, mod_opposite, mod_cancel}
use Rattle.cgs_order.proofs.OrderLemmas.{cmp_equal, cmp_self}
use Rattle.cgs_terms.specs.Product.{scaled}
use Rattle.cgs_terms.specs.Polynomial.{Term, total, indicator, SameCoefficients}

-- sums

pub total_append : (w : List ℕ → ℕ) (f g : List Term) → total w (f ++ g) ≡ total w f + total w g
total_append w [] g = omega arith
total_append w (x ∷ f) g = omega (arith, total_append w f g)

-- two lists of terms have one sum: under every weight of the monomials they come to one number

pub record Alike (p : ℕ) (f g : List Term) : Type 0 where
  pub under : (w : List ℕ → ℕ) → total w f % p ≡ total w g % p

pub alike_same : (p : ℕ) (f : List Term) → Alike p f f
alike_same p f = record { under = λ w. refl }

pub alike_back : {p : ℕ} {f g : List Term} → Alike p f g → Alike p g f
alike_back h = record { under = λ w. sym (h.under w) }

pub alike_trans : {p : ℕ} {f g h : List Term} → Alike p f g → Alike p g h → Alike p f h
alike_trans a b = record { under = λ w. a.under w ∙ b.under w }

pub alike_append : {p : ℕ} {f g h k : List Term} → Alike p f g → Alike p h k → Alike p (f ++ h) (g ++ k)
alike_append {p} {f} {g} {h} {k} a b =
    record { under = λ w. cc (total_append w f h, total_append w g k, mod_add p (total w f) (total w g) (total w h) (total w k) (a.under w) (b.under w)) }

pub alike_swap : (p : ℕ) (f g : List Term) → Alike p (f ++ g) (g ++ f)
alike_swap p f g =
    record { under = λ w. let e : total w (f ++ g) ≡ total w (g ++ f) = omega (arith, total_append w f g, total_append w g f) in ap (λ n. n % p) e }

-- the coefficients decide

pub only_same : (m : List ℕ) → indicator m m ≡ 1
only_same m = rw (cmp_self m)

pub only_other : (m n : List ℕ) → (m ≡ n → ⊥) → indicator m n ≡ 0
only_other m n h = step (slice_cmp nat_cmp m n) refl
  where
    step : (o : Ordering) → slice_cmp nat_cmp m n ≡ o → ◌≡◌ {A = ℕ} (cond (is_eq o) 1 0) 0
    step Less e = refl
    step Equal e = absurd (h (cmp_equal m n e))
    step Greater e = refl

-- f without its terms at m
abbrev without : List ℕ → List Term → List Term
without m [] = []
without m (x ∷ f) = cond (is_eq (slice_cmp nat_cmp m x.exponents)) (without m f) (x ∷ without m f)

pub total_scaled : (w : List ℕ → ℕ) (c : ℕ) (f : List Term) → total w (scaled c f) ≡ c * total w f
total_scaled w c [] = omega arith
total_scaled w c (x ∷ f) = omega (arith, total_scaled w c f)

without_total : (w : List ℕ → ℕ) (m : List ℕ) (f : List Term) → total w f ≡ total (indicator m) f * w m + total w (without m f)
without_total w m [] = omega arith
without_total w m (x ∷ f) = step (slice_cmp nat_cmp m x.exponents) refl (without_total w m f)
  where
    step : (o : Ordering) → slice_cmp nat_cmp m x.exponents ≡ o → total w f ≡ total (indicator m) f * w m + total w (without m f)
        → x.coefficient * w x.exponents + total w f
        ≡ (x.coefficient * cond (is_eq o) 1 0 + total (indicator m) f) * w m + total w (cond (is_eq o) (without m f) (x ∷ without m f))
    step Less e ih = omega arith
    step Equal e ih = rw (cmp_equal m x.exponents e) (omega (arith, rw (cmp_equal m x.exponents e) at ih))
    step Greater e ih = omega arith

without_length : (m : List ℕ) (f : List Term) → length (without m f) ≤ length f
without_length m [] = omega arith
without_length m (x ∷ f) = step (is_eq (slice_cmp nat_cmp m x.exponents)) (without_length m f)
  where
    step : (b : Bool) → length (without m f) ≤ length f → length (cond b (without m f) (x ∷ without m f)) ≤ suc (length f)
    step true ih = omega arith
    step false ih = omega arith

-- the coefficients of what is left are those of f, or 0
without_only : (p : ℕ) (m : List ℕ) (f : List Term) → ((n : List ℕ) → total (indicator n) f % p ≡ 0) → (n : List ℕ) → total (indicator n) (without m f) % p ≡ 0
without_only p m f h n = step (slice_cmp nat_cmp n m) refl
  where
    gone : (f : List Term) → total (indicator m) (without m f) ≡ 0
    gone [] = refl
    gone (x ∷ f) = by_test (slice_cmp nat_cmp m x.exponents) refl (gone f)
      where
        by_test : (o : Ordering) → slice_cmp nat_cmp m x.exponents ≡ o → total (indicator m) (without m f) ≡ 0
            → total (indicator m) (cond (is_eq o) (without m f) (x ∷ without m f)) ≡ 0
        by_test Less e ih = rw e (omega arith)
        by_test Equal e ih = ih
        by_test Greater e ih = rw e (omega arith)

    step : (o : Ordering) → slice_cmp nat_cmp n m ≡ o → total (indicator n) (without m f) % p ≡ 0
    step Less e =
        let z : indicator n m ≡ 0 = rw e in
        let s : total (indicator n) f ≡ total (indicator n) (without m f) = omega (arith, rw z at (without_total (indicator n) m f)) in
        rw (← s) (h n)
    step Equal e = rw (cmp_equal n m e, gone f) (zero-mod p)
    step Greater e =
        let z : indicator n m ≡ 0 = rw e in
        let s : total (indicator n) f ≡ total (indicator n) (without m f) = omega (arith, rw z at (without_total (indicator n) m f)) in
        rw (← s) (h n)

-- a list whose coefficients are all 0 comes to 0 under every weight
vanishing : (p n : ℕ) (f : List Term) → length f ≤ n → ((m : List ℕ) → total (indicator m) f % p ≡ 0) → (w : List ℕ → ℕ) → total w f % p ≡ 0
vanishing p n [] l h w = zero-mod p
vanishing p zero (x ∷ f) l h w = absurd (omega arith)
vanishing p (suc n) (x ∷ f) l h w =
    let m : List ℕ = x.exponents in
    let head : without m (x ∷ f) ≡ without m f = rw (cmp_self m) in
    let small : length (without m f) ≤ n = omega (arith, without_length m f) in
    let rest : (k : List ℕ) → total (indicator k) (without m f) % p ≡ 0 = λ k. rw head at (without_only p m (x ∷ f) h k) in
    let ih : total w (without m f) % p ≡ 0 = vanishing p n (without m f) small rest w in
    let split : total w (x ∷ f) ≡ total (indicator m) (x ∷ f) * w m + total w (without m f) = rw head at (without_total w m (x ∷ f)) in
    let zero_part : (total (indicator m) (x ∷ f) * w m) % p ≡ 0 % p =
    mod_mul p (total (indicator m) (x ∷ f)) 0 (w m) (w m) (h m ∙ sym (zero-mod p)) refl ∙ ap (λ k. k % p) (zero-mul (w m)) in
    let sum : (total (indicator m) (x ∷ f) * w m + total w (without m f)) % p ≡ (0 + 0) % p = mod_add p _ _ _ _ zero_part (ih ∙ sym (zero-mod p)) in
    ap (λ k. k % p) split ∙ (sum ∙ zero-mod p)

pub alike_from_coefficients : {p : ℕ} {f g : List Term} → 0 < p → SameCoefficients p f g → Alike p f g
alike_from_coefficients {p} {f} {g} pos h = record { under = λ w. by_weight w }
  where
    difference : (w : List ℕ → ℕ) → total w f % p ≡ total w g % p → total w (f ++ scaled (p - 1) g) % p ≡ 0
    difference w e =
        let s : total w (f ++ scaled (p - 1) g) ≡ total w f + (p - 1) * total w g =
        omega (arith, total_append w f (scaled (p - 1) g), total_scaled w (p - 1) g) in
        ap (λ k. k % p) s ∙ (mod_add p _ (total w g) _ ((p - 1) * total w g) e refl ∙ mod_opposite p (total w g) pos)

    by_weight : (w : List ℕ → ℕ) → total w f % p ≡ total w g % p
    by_weight w =
        let z : total w (f ++ scaled (p - 1) g) % p ≡ 0 =
        vanishing p (length (f ++ scaled (p - 1) g)) (f ++ scaled (p - 1) g) (omega arith) (λ m. difference (indicator m) (h.at m)) w in
        let s : total w (f ++ scaled (p - 1) g) ≡ total w f + (p - 1) * total w g =
        omega (arith, total_append w f (scaled (p - 1) g), total_scaled w (p - 1) g) in
        let a : (total w f + (p - 1) * total w g) % p ≡ 0 = ap (λ k. k % p) (sym s) ∙ z in
        let b : (total w g + (p - 1) * total w g) % p ≡ 0 = mod_opposite p (total w g) pos in
        mod_cancel p (total w f) (total w g) ((p - 1) * total w g) pos (a ∙ sym b)

pub coefficients_from_alike : {p : ℕ} {f g : List Term} → Alike p f g → SameCoefficients p f g
coefficients_from_alike a = record { at = λ m. a.under (indicator m) }
