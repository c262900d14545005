-- Least common multiples and what they are divided by.
use Rattle.std.proofs.Common.{ℕ, ◌≡◌, ◌+◌, List, [], ◌∷◌, Bool, true, false, length, refl, sym, ap, ◌∙◌, subst, arith, max, ◌||◌, ◌==◌}
use Rattle.std.proofs.lemmas.Bool.{and_parts, eqb-true}
use Rattle.cgs_exps.specs.Monomial.{product, divides, quotient, lcm, coprime}
use Rattle.cgs_exps.proofs.MonomialLemmas.{product_assoc, product_comm, product_length, product_cancel, quotient_product, quotient_length, lcm_length, lcm_comm}
use Rattle.cgs_exps.proofs.MonomialLemmas.{lcm_divides, divides_lcm_left, divides_product}

pub divides_lcm_right : (a b : List ℕ) → length a ≡ length b → divides b (lcm a b) ≡ true
divides_lcm_right a b e = subst (λ k. divides b k ≡ true) (lcm_comm b a (sym e)) (divides_lcm_left b a (sym e))

pub lcm_quotient_left : (a b : List ℕ) (n : ℕ) → length a ≡ n → length b ≡ n → product (quotient (lcm a b) a) a ≡ lcm a b
lcm_quotient_left a b n la lb = quotient_product (lcm a b) a (lcm_length a b n la lb ∙ sym la) (divides_lcm_left a b (la ∙ sym lb))

pub lcm_quotient_right : (a b : List ℕ) (n : ℕ) → length a ≡ n → length b ≡ n → product (quotient (lcm a b) b) b ≡ lcm a b
lcm_quotient_right a b n la lb = quotient_product (lcm a b) b (lcm_length a b n la lb ∙ sym lb) (divides_lcm_right a b (la ∙ sym lb))

-- two factors of one length that make one product
pub same_factor : (a x y : List ℕ) (n : ℕ) → length a ≡ n → length x ≡ n → length y ≡ n → product x a ≡ product y a → x ≡ y
same_factor a x y n la lx ly e = product_cancel a x y (la ∙ sym lx) (la ∙ sym ly) (product_comm a x ∙ (e ∙ product_comm y a))

-- m = t*a = s*b is a multiple u of the lcm of a and b
pub record CommonMultiple (n : ℕ) (a b t s m : List ℕ) : Type 0 where
  pub factor : List ℕ
  pub long : length factor ≡ n
  pub multiple : product factor (lcm a b) ≡ m
  pub left : product factor (quotient (lcm a b) a) ≡ t
  pub right : product factor (quotient (lcm a b) b) ≡ s

pub common_multiple : (n : ℕ) (a b t s m : List ℕ) → length a ≡ n → length b ≡ n → length t ≡ n
    → length s ≡ n → product t a ≡ m → product s b ≡ m → CommonMultiple n a b t s m
common_multiple n a b t s m la lb lt ls et es =
    let q : List ℕ = lcm a b in
    let lq : length q ≡ n = lcm_length a b n la lb in
    let lm : length m ≡ n = subst (λ k. length k ≡ n) et (product_length t a n lt la) in
    let da : divides a m ≡ true = subst (λ k. divides a k ≡ true) et (divides_product t a) in
    let db : divides b m ≡ true = subst (λ k. divides b k ≡ true) es (divides_product s b) in
    let u : List ℕ = quotient m q in
    let lu : length u ≡ n = quotient_length m q n lm lq in
    let eu : product u q ≡ m = quotient_product m q (lm ∙ sym lq) (lcm_divides a b m (la ∙ sym lm) (lb ∙ sym lm) da db) in
    record {
      factor = u;
      long = lu;
      multiple = eu;
      left = factor_of u a t lu la lt (lcm_quotient_left a b n la lb) (eu ∙ sym et) lq;
      right = factor_of u b s lu lb ls (lcm_quotient_right a b n la lb) (eu ∙ sym es) lq;
    }
  where
    factor_of : (u d x : List ℕ) → length u ≡ n → length d ≡ n → length x ≡ n → product (quotient (lcm a b) d) d ≡ lcm a b → product u (lcm a b) ≡ product x d
        → length (lcm a b) ≡ n → product u (quotient (lcm a b) d) ≡ x
    factor_of u d x lu ld lx e f lq =
        let v : List ℕ = quotient (lcm a b) d in
        same_factor d (product u v) x n ld (product_length u v n lu (quotient_length (lcm a b) d n lq ld)) lx (product_assoc u v d ∙ (ap (product u) e ∙ f))

-- the lcm of coprime monomials is their product
pub coprime_lcm : (a b : List ℕ) → coprime a b ≡ true → lcm a b ≡ product a b
coprime_lcm [] b h = refl
coprime_lcm (x ∷ a) [] h = refl
coprime_lcm (x ∷ a) (y ∷ b) h =
    let parts = and_parts _ _ h in
    let e : max x y ≡ x + y = either (x == 0) refl parts.0 in
    cc (e, coprime_lcm a b parts.1)
  where
    either : (c : Bool) → x == 0 ≡ c → (c || y == 0) ≡ true → max x y ≡ x + y
    either true e k = let z : x ≡ 0 = eqb-true x 0 e in omega arith
    either false e k = let z : y ≡ 0 = eqb-true y 0 k in omega arith
