-- The parts of a problem that is made from a number.
use Rattle.std.proofs.Common.{ℕ, zero, suc, ◌≡◌, ◌+◌, ◌*◌, ◌%◌, ◌<◌, ◌≤◌, None, List, [], ◌∷◌, ◌++◌, length, take, replicate, set, bytes_eq, refl, sym, ap, ◌∙◌}
use Rattle.std.proofs.Common.{subst, arith, add-one, length-append}
use Rattle.std.specs.List.{IsDistinct}
use Rattle.std.proofs.Math.Nat.{mod-eq_of_lt, mod-lt}
use Rattle.std.proofs.Math.Seq.{take-set-lt}
use Rattle.std.proofs.lemmas.Cmp.{nat_list_eq_equiv}
use Rattle.std.proofs.lemmas.List.{length-set, length-replicate, take-replicate}
use Rattle.std.proofs.lemmas.List.Folds.{sum_by-replicate}
use Rattle.std.proofs.lemmas.List.Sums.{sum_by-cons}
use Rattle.std.proofs.lemmas.Map.Made.{IsDistinct-from_count}
use Rattle.cgs_exps.specs.Monomial.{degree}
use Rattle.cgs_poly.specs.Ring.{Ring}
use Rattle.cgs_poly.specs.Polynomial.{Term, IsRing, IsPoly, ArePolys, term, places}
use Rattle.cgs_problem.specs.declared.problem.Problem.{Problem}
use Rattle.cgs_problem.specs.Problems.{IsProblem}
use Rattle.cgs_gen.specs.Generator.{ring_of, variable_names, parameter_names, powers, next, link, state_at, first_links}

-- the front of an array with two exponents set
front_powers : (n s i e j : ℕ) → 3 * n ≤ s → i < 3 * n → j < 3 * n → take (3 * n) (set (set (replicate s 0) i e) j 1) ≡ powers n i e j
front_powers n s i e j l p q =
    take-set-lt (3 * n) (set (replicate s 0) i e) j 1 q
    ∙ ap (λ k. set k j 1) (take-set-lt (3 * n) (replicate s 0) i e p ∙ ap (λ k. set k i e) (take-replicate (3 * n) s 0 l))

pub term_is : (n c i e j d : ℕ) → c < 101 → 3 * n ≤ 12 → i < 3 * n → j < 3 * n → d ≡ c % 101
    → term d (take (3 * n) (set (set (replicate 12 0) i e) j 1)) ∷ [] ≡ term c (powers n i e j) ∷ []
term_is n c i e j d below few p q v =
    ap (λ m. term d m ∷ []) (front_powers n 12 i e j few p q) ∙ ap (λ k. term k (powers n i e j) ∷ []) (v ∙ mod-eq_of_lt below)

powers_long : (n i e j : ℕ) → length (powers n i e j) ≡ 3 * n
powers_long n i e j = length-set (set (replicate (3 * n) 0) i e) j 1 ∙ (length-set (replicate (3 * n) 0) i e ∙ length-replicate (3 * n) 0)

-- an exponent that is set adds at most itself to the degree
degree_set : (l : List ℕ) (i e : ℕ) → degree (set l i e) ≤ degree l + e
degree_set [] i e = omega arith
degree_set (x ∷ l) zero e = let s = sum_by-cons (λ k. k) e l in let t = sum_by-cons (λ k. k) x l in omega arith
degree_set (x ∷ l) (suc i) e =
    let h = degree_set l i e in let s = sum_by-cons (λ k. k) x (set l i e) in let t = sum_by-cons (λ k. k) x l in omega arith

powers_low : (n i e j : ℕ) → degree (powers n i e j) ≤ e + 1
powers_low n i e j =
    let zeros : List ℕ = replicate (3 * n) 0 in
    let z : degree zeros ≡ 3 * n * 0 = sum_by-replicate (λ k. k) (3 * n) 0 in
    let h : degree (set zeros i e) ≤ degree zeros + e = degree_set zeros i e in
    let k : degree (powers n i e j) ≤ degree (set zeros i e) + 1 = degree_set (set zeros i e) j 1 in
    omega arith

pub term_poly : (ring : Ring) (n c i e j : ℕ) → ring ≡ ring_of n → 0 < c → c < 101 → e ≤ 2 → IsPoly ring (term c (powers n i e j) ∷ [])
term_poly ring n c i e j is some below low =
    let long : length (powers n i e j) ≡ n + 2 * n = omega (arith, powers_long n i e j) in
    let few : degree (powers n i e j) ≤ 32767 = omega (arith, powers_low n i e j) in
    subst (λ k. IsPoly k (term c (powers n i e j) ∷ [])) (sym is) (record { canonical = (some, below, long, tt, tt); low = (few, tt) })

-- the names

names_length : (n : ℕ) → length (variable_names n) ≡ n
names_length zero = refl
names_length (suc n) = length-append (variable_names n) _ ∙ (let h = names_length n in omega (arith, h))

parameters_length : (n : ℕ) → length (parameter_names n) ≡ 2 * n
parameters_length zero = refl
parameters_length (suc n) = length-append (parameter_names n) _ ∙ (let h = parameters_length n in omega (arith, h))

pub names_distinct : (n : ℕ) → n ≤ 4 → IsDistinct bytes_eq (variable_names n ++ parameter_names n)
names_distinct zero l = IsDistinct-from_count nat_list_eq_equiv (variable_names 0 ++ parameter_names 0) refl
names_distinct (suc zero) l = IsDistinct-from_count nat_list_eq_equiv (variable_names 1 ++ parameter_names 1) refl
names_distinct (suc (suc zero)) l = IsDistinct-from_count nat_list_eq_equiv (variable_names 2 ++ parameter_names 2) refl
names_distinct (suc (suc (suc zero))) l = IsDistinct-from_count nat_list_eq_equiv (variable_names 3 ++ parameter_names 3) refl
names_distinct (suc (suc (suc (suc zero)))) l = IsDistinct-from_count nat_list_eq_equiv (variable_names 4 ++ parameter_names 4) refl
names_distinct (suc (suc (suc (suc (suc n))))) l = absurd (omega arith)

names_fit : (n : ℕ) → length (variable_names n ++ parameter_names n) ≡ places (ring_of n)
names_fit n = length-append (variable_names n) (parameter_names n) ∙ (let a = names_length n in let b = parameters_length n in omega (arith, a, b))

-- a problem of such parts is valid
pub valid_parts : (problem : Problem) (n : ℕ) → n ≤ 4 → IsRing problem.ring → problem.ring ≡ ring_of n
    → problem.names ≡ variable_names n ++ parameter_names n → problem.zero ≡ [] → problem.nonzero ≡ [] → ArePolys problem.ring problem.polys
    → problem.thesis ≡ None → problem.points ≡ [] → IsProblem problem
valid_parts problem n l r is names zeros nonzeros polys thesis points = record {
  ring = r;
  named = ap length names ∙ (names_fit n ∙ ap places (sym is));
  distinct = rw names (names_distinct n l);
  zero = rw zeros tt;
  nonzero = rw nonzeros tt;
  polys = polys;
  thesis = rw thesis tt;
  points = rw points tt;
}

pub links_few : (k : ℕ) → 2 + k % 3 ≤ 4
links_few k = let h : k % 3 < 3 = mod-lt k (omega arith) in omega arith

-- a turn of the loop

pub one_link_more : (n k i s : ℕ) (F G : List (List Term)) (f : List Term) → G ≡ F ++ f ∷ [] → F ≡ first_links n k i → f ≡ link n i s
    → s ≡ state_at k i → G ≡ first_links n k (i + 1)
one_link_more n k i s F G f g h e q = rw add-one (g ∙ (ap (λ p. p ++ f ∷ []) h ∙ ap (λ p. first_links n k i ++ p ∷ []) (e ∙ ap (link n i) q)))

pub one_state_more : (k i s a b d : ℕ) → s ≡ state_at k i → a ≡ next s → b ≡ next a → d ≡ next b → d ≡ state_at k (i + 1)
one_state_more k i s a b d e p q r = rw add-one (r ∙ ap next (q ∙ ap next (p ∙ ap next e)))
