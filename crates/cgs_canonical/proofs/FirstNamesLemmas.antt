-- Only as many names as a monomial has places are printed.
use Rattle.std.proofs.Common.{ℕ, zero, suc, ◌≡◌, ◌+◌, ◌≤◌, cond, List, [], ◌∷◌, ◌++◌, length, take, drop, codes, refl, ap, ◌∙◌, arith, eqb}
use Rattle.std.proofs.lemmas.List.{length-drop, take-take, drop-take}
use Rattle.std.specs.List.{flat_map}
use Rattle.cgs_poly.specs.Ring.{Ring}
use Rattle.cgs_poly.specs.Polynomial.{Term, IsCanonical, places}
use Rattle.cgs_canonical.specs.Printing.{power_text, powers_text, monomial_text, term_text, polynomial_text}

powers_taken : (n : ℕ) (names : List (List ℕ)) (exponents : List ℕ) → length exponents ≤ n → powers_text (take n names) exponents ≡ powers_text names exponents
powers_taken zero [] exponents le = refl
powers_taken (suc n) [] exponents le = refl
powers_taken zero (name ∷ names) [] le = refl
powers_taken zero (name ∷ names) (e ∷ exponents) le = absurd (omega arith)
powers_taken (suc n) (name ∷ names) [] le = refl
powers_taken (suc n) (name ∷ names) (e ∷ exponents) le =
    ap (λ (powers : List (List ℕ)). cond (eqb e 0) powers (power_text name e ∷ powers)) (powers_taken n names exponents (omega arith))

monomial_taken : (ring : Ring) (names : List (List ℕ)) (exponents : List ℕ) → length exponents ≡ places ring
    → monomial_text ring (take (places ring) names) exponents ≡ monomial_text ring names exponents
monomial_taken ring names exponents l =
    let v : ℕ = ring.variables in
    let p : ℕ = ring.parameters in
    let le : v ≤ v + p = omega arith in
    let first : take v (take (v + p) names) ≡ take v names = take-take v (v + p) names le in
    let second : drop v (take (v + p) names) ≡ take p (drop v names) = drop-take v p names in
    let few : length (drop v exponents) ≤ p = omega (arith, length-drop v exponents) in
    let rest : powers_text (drop v (take (v + p) names)) (drop v exponents) ≡ powers_text (drop v names) (drop v exponents) =
    ap (λ ns. powers_text ns (drop v exponents)) second ∙ powers_taken p (drop v names) (drop v exponents) few in
    cc (ap (λ ns. powers_text ns (take v exponents)) first)

term_taken : (ring : Ring) (names : List (List ℕ)) (t : Term) → length t.exponents ≡ places ring
    → term_text ring (take (places ring) names) t ≡ term_text ring names t
term_taken ring names t l = rw (monomial_taken ring names t.exponents l) refl

following_taken : (ring : Ring) (names : List (List ℕ)) (f : List Term) → IsCanonical ring f
    → flat_map (λ t. codes "+" ++ term_text ring (take (places ring) names) t) f ≡ flat_map (λ t. codes "+" ++ term_text ring names t) f
following_taken ring names [] h = refl
following_taken ring names (t ∷ f) h = cc (term_taken ring names t h.2, following_taken ring names f h.4)

-- more names than places change nothing
pub polynomial_taken : (ring : Ring) (names : List (List ℕ)) (f : List Term) → IsCanonical ring f
    → polynomial_text ring (take (places ring) names) f ≡ polynomial_text ring names f
polynomial_taken ring names [] h = refl
polynomial_taken ring names (t ∷ f) h = cc (term_taken ring names t h.2, following_taken ring names f h.4)
