-- The steps of a reduction: each is paid, so that with more steps than units their number does not matter.
use Rattle.std.proofs.Common.{ℕ, zero, suc, ◌≡◌, ◌+◌, ◌-◌, ◌*◌, ◌<◌, ◌≤◌, Bool, true, false, cond, ltb, List, [], ◌∷◌, ◌++◌, length, get_or, refl, ap, arith}
use Rattle.std.proofs.lemmas.Bool.{ltb-true, ltb-false, lt-ltb}
use Rattle.cgs_poly.specs.Ring.{Ring}
use Rattle.cgs_poly.specs.Polynomial.{Term, canonical}
use Rattle.cgs_poly.specs.Product.{all_products}
use Rattle.cgs_poly.specs.Parameters.{lead_x, lc_x, part_at}
use Rattle.cgs_divide.specs.Ending.{Ending, ended, out_of_budget, out_of_degree, charged, followed}
use Rattle.cgs_divide.proofs.EndingLemmas.{ended_same, past_budget, past_degree}
use Rattle.cgs_member.specs.declared.reduction.Parts.{Parts}
use Rattle.cgs_member.specs.ReductionRun.{lead_divides, first_divisor, others_at, parts}
use Rattle.cgs_member.specs.ReductionRun.{cancelled, cancelling_cost, is_cancelling_too_high, cancelling, moving, step, reduction_in, reduction}
use Rattle.cgs_member.proofs.PartLemmas.{lc_x_length}

-- the first divisor divides, and none before it
pub divisor_divides : (ring : Ring) (B : List (List Term)) (m : List ℕ) → first_divisor ring B m < length B
    → lead_divides ring (get_or B (first_divisor ring B m) []) m ≡ true
divisor_divides ring [] m l = absurd (omega arith)
divisor_divides ring (g ∷ B) m l = by_test (divisor_divides ring B m) (lead_divides ring g m) refl l
  where
    by_test : (first_divisor ring B m < length B → lead_divides ring (get_or B (first_divisor ring B m) []) m ≡ true) → (b : Bool) → lead_divides ring g m ≡ b
        → cond b 0 (suc (first_divisor ring B m)) < suc (length B) → lead_divides ring (get_or (g ∷ B) (cond b 0 (suc (first_divisor ring B m))) []) m ≡ true
    by_test ih true e h = e
    by_test ih false e h = ih (omega (arith, h))

pub none_divides : (ring : Ring) (B : List (List Term)) (m : List ℕ) → length B ≤ first_divisor ring B m
    → (i : ℕ) → i < length B → lead_divides ring (get_or B i []) m ≡ false
none_divides ring [] m h i l = absurd (omega arith)
none_divides ring (g ∷ B) m h i l = by_test (none_divides ring B m) (lead_divides ring g m) refl h i l
  where
    by_test : (length B ≤ first_divisor ring B m → (j : ℕ) → j < length B → lead_divides ring (get_or B j []) m ≡ false) → (b : Bool)
        → lead_divides ring g m ≡ b → suc (length B) ≤ cond b 0 (suc (first_divisor ring B m)) → (j : ℕ) → j < suc (length B)
        → lead_divides ring (get_or (g ∷ B) j []) m ≡ false
    by_test ih true e h j l = absurd (omega (arith, h))
    by_test ih false e h zero l = e
    by_test ih false e h (suc j) l = ih (omega (arith, h)) j (omega (arith, l))

-- one found by a search

pub first_at : (ring : Ring) (B : List (List Term)) (m : List ℕ) (i : ℕ) → i < length B → i ≤ first_divisor ring B m
    → lead_divides ring (get_or B i []) m ≡ true → first_divisor ring B m ≡ i
first_at ring [] m i l h d = absurd (omega arith)
first_at ring (g ∷ B) m zero l h d = rw d refl
first_at ring (g ∷ B) m (suc i) l h d = by_test (lead_divides ring g m) h (λ k. first_at ring B m i (omega arith) k d)
  where
    by_test : (b : Bool) → suc i ≤ cond b 0 (suc (first_divisor ring B m))
        → (i ≤ first_divisor ring B m → first_divisor ring B m ≡ i) → cond b 0 (suc (first_divisor ring B m)) ≡ suc i
    by_test true k ih = absurd (omega arith)
    by_test false k ih = ap suc (ih (omega arith))

pub not_first : (ring : Ring) (B : List (List Term)) (m : List ℕ) (i : ℕ) → i < length B → i ≤ first_divisor ring B m
    → lead_divides ring (get_or B i []) m ≡ false → i + 1 ≤ first_divisor ring B m
not_first ring [] m i l h d = absurd (omega arith)
not_first ring (g ∷ B) m zero l h d = rw d (omega arith)
not_first ring (g ∷ B) m (suc i) l h d = by_test (lead_divides ring g m) h (λ k. not_first ring B m i (omega arith) k d)
  where
    by_test : (b : Bool) → suc i ≤ cond b 0 (suc (first_divisor ring B m))
        → (i ≤ first_divisor ring B m → i + 1 ≤ first_divisor ring B m) → suc i + 1 ≤ cond b 0 (suc (first_divisor ring B m))
    by_test true k ih = absurd (omega arith)
    by_test false k ih = let a = ih (omega arith) in omega arith

-- what has a lead is not 0
pub divisor_some : (ring : Ring) (b : List Term) (m : List ℕ) → lead_divides ring b m ≡ true → 0 < length b
divisor_some ring [] m d = absurd (cc)
divisor_some ring (y ∷ b) m d = omega arith

-- a product of lengths
pub positive_product : (m n : ℕ) → 0 < m → 0 < n → 0 < m * n
positive_product zero n h k = absurd (omega arith)
positive_product (suc m) n h k = omega arith

pub cost_positive : (ring : Ring) (f b r : List Term) (m : List ℕ) → 0 < length f → lead_divides ring b m ≡ true → 0 < cancelling_cost ring f b r
cost_positive ring f b r m some d =
    let p = positive_product (length (lc_x ring b)) (length f) (lc_x_length ring b (divisor_some ring b m d)) some in
    more (length (lc_x ring b) * length f) (length (lc_x ring f) * length b) (length (lc_x ring b) * length r) p
  where
    more : (i j k : ℕ) → 0 < i → 0 < i + j + k
    more i j k h = omega arith

-- a step that leaves something has taken units
charged_paid : (cost units : ℕ) (b : Bool) (p q : Parts) (left : ℕ) → 0 < cost
    → charged cost units (cond b (out_of_degree (units - cost)) (ended p (units - cost))) ≡ ended q left → left < units
charged_paid cost units b p q left some e =
    let run : Ending Parts = cond b (out_of_degree (units - cost)) (ended p (units - cost)) in
    by_test (ltb units cost) refl (past_degree b (units - cost) (ended p (units - cost)) q left (past_budget (ltb units cost) units run q left e)) e
  where
    by_test : (t : Bool) → ltb units cost ≡ t → ended p (units - cost) ≡ ended q left
        → cond t (out_of_budget units) (cond b (out_of_degree (units - cost)) (ended p (units - cost))) ≡ ended q left → left < units
    by_test true k d e = absurd (cc)
    by_test false k d e = let l = ltb-false units cost k in let n = (ended_same p q (units - cost) left d).1 in omega (arith, l, n, some)

step_paid : (ring : Ring) (B : List (List Term)) (units : ℕ) (f r : List Term) (q : Parts) (left : ℕ) → 0 < length f
    → step ring B units f r ≡ ended q left → left < units
step_paid ring B units f r q left some e =
    by_test (ltb (first_divisor ring B (lead_x ring f)) (length B)) refl e
  where
    by_test : (t : Bool) → ltb (first_divisor ring B (lead_x ring f)) (length B) ≡ t
        → cond t (cancelling ring (get_or B (first_divisor ring B (lead_x ring f)) []) units f r) (moving ring units f r) ≡ ended q left → left < units
    by_test true k e =
        let b : List Term = get_or B (first_divisor ring B (lead_x ring f)) [] in
        let d = divisor_divides ring B (lead_x ring f) (ltb-true (first_divisor ring B (lead_x ring f)) (length B) k) in
        charged_paid (cancelling_cost ring f b r) units (is_cancelling_too_high ring f b r)
        (parts (cancelled ring f b) (canonical ring (all_products (lc_x ring b) r))) q left (cost_positive ring f b r (lead_x ring f) some d) e
    by_test false k e =
        charged_paid (length (lc_x ring f)) units false
        (parts (others_at ring (lead_x ring f) f) (canonical ring (r ++ part_at ring (lead_x ring f) f))) q left (lc_x_length ring f some) e

-- runs that go on alike
followed_same : {A B : Type 0} (run : Ending A) (p q : A → ℕ → Ending B) → ((a : A) (left : ℕ) → run ≡ ended a left → p a left ≡ q a left)
    → followed run p ≡ followed run q
followed_same (ended a left) p q h = h a left refl
followed_same (out_of_budget u) p q h = refl
followed_same (out_of_degree u) p q h = refl

module _ (ring : Ring) (B : List (List Term)) where
  enough_steps : (n m units : ℕ) (f r : List Term) → units < n → units < m → reduction_in n ring B units f r ≡ reduction_in m ring B units f r
  enough_steps zero m units f r h k = absurd (omega arith)
  enough_steps (suc n) zero units f r h k = absurd (omega arith)
  enough_steps (suc n) (suc m) units [] r h k = refl
  enough_steps (suc n) (suc m) units (x ∷ f) r h k =
      followed_same (step ring B units (x ∷ f) r) (λ p left. reduction_in n ring B left p.rest p.remainder)
      (λ p left. reduction_in m ring B left p.rest p.remainder)
      (λ p left e. let l = step_paid ring B units (x ∷ f) r p left (omega arith) e in
      enough_steps n m left p.rest p.remainder (omega (arith, l)) (omega (arith, l)))

  pub reduction_nothing : (units : ℕ) (r : List Term) → reduction ring B units [] r ≡ ended r units
  unfolding reduction
  reduction_nothing units r = refl

  pub reduction_step : (units : ℕ) (f r : List Term) → 0 < length f
      → reduction ring B units f r ≡ followed (step ring B units f r) (λ p left. reduction ring B left p.rest p.remainder)
  unfolding reduction
  reduction_step units [] r some = absurd (omega arith)
  reduction_step units (x ∷ f) r some =
      followed_same (step ring B units (x ∷ f) r) (λ p left. reduction_in units ring B left p.rest p.remainder)
      (λ p left. reduction_in (suc left) ring B left p.rest p.remainder)
      (λ p left e. let l = step_paid ring B units (x ∷ f) r p left some e in enough_steps units (suc left) left p.rest p.remainder l (omega arith))

-- the step by a member that was found
pub step_cancelling : (ring : Ring) (B : List (List Term)) (units i : ℕ) (f r b : List Term) → i < length B → first_divisor ring B (lead_x ring f) ≡ i
    → get_or B i [] ≡ b → step ring B units f r ≡ cancelling ring b units f r
step_cancelling ring B units i f r b l e g = rw (e, lt-ltb i (length B) l, g) refl
