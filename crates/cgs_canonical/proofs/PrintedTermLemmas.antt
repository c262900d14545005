-- A term: its coefficient, unless it is left out, and the powers of the parameters and of the variables.
use Rattle.std.proofs.Common.{ℕ, ◌≡◌, ◌-◌, min, Bool, true, false, not, ◌&&◌, ◌==◌, cond, List, [], ◌∷◌, ◌++◌, take, drop, length, codes, decimal, refl, sym}
use Rattle.std.proofs.Common.{ap, ◌∙◌, append_assoc}
use Rattle.std.proofs.lemmas.List.{length-take, length-drop, take-append-drop}
use Rattle.std.proofs.lemmas.List.Concat.{flat_map-append}
use Rattle.std.proofs.lemmas.List.Folds.{list_all-append}
use Rattle.std.specs.List.{flat_map, join_by, list_all}
use Rattle.cgs_poly.specs.Ring.{Ring}
use Rattle.cgs_poly.specs.Polynomial.{term, places}
use Rattle.cgs_canonical.specs.Printing.{power_text, powers_text, factors_text, term_text, following}
use Rattle.cgs_canonical.proofs.PrintLemmas.{Leaves, leaves_all, leaves_equal}

abbrev pub is_zero : ℕ → Bool
is_zero exponent = exponent == 0

abbrev no_powers : List (List ℕ) → Bool
no_powers [] = true
no_powers (power ∷ powers) = false

no_powers_cond : (b : Bool) (power : List ℕ) (powers : List (List ℕ)) → no_powers (cond b powers (power ∷ powers)) ≡ (b && no_powers powers)
no_powers_cond true power powers = refl
no_powers_cond false power powers = refl

-- no power is printed where each exponent is 0
no_powers_of : (names : List (List ℕ)) (exponents : List ℕ) → length names ≡ length exponents
    → no_powers (powers_text names exponents) ≡ list_all is_zero exponents
no_powers_of [] [] h = refl
no_powers_of [] (exponent ∷ exponents) h = cc
no_powers_of (name ∷ names) [] h = cc
no_powers_of (name ∷ names) (exponent ∷ exponents) h =
    no_powers_cond (exponent == 0) (power_text name exponent) (powers_text names exponents)
    ∙ ap (λ b. (exponent == 0) && b) (no_powers_of names exponents (cc))

no_powers_append : (powers others : List (List ℕ)) → no_powers (powers ++ others) ≡ (no_powers powers && no_powers others)
no_powers_append [] others = refl
no_powers_append (power ∷ powers) others = refl

and_comm : (a b : Bool) → (a && b) ≡ (b && a)
and_comm true true = refl
and_comm true false = refl
and_comm false true = refl
and_comm false false = refl

abbrev joined : List (List ℕ) → List ℕ
joined factors = join_by (λ factor. factor) (codes "*") factors

factors_joined : (coefficient : ℕ) (powers others : List (List ℕ)) (b : Bool) → (coefficient == 1) ≡ b
    → joined (factors_text coefficient (powers ++ others))
    ≡ cond (b && not (no_powers (powers ++ others))) [] (decimal coefficient)
    ++ (following (b && not (no_powers (powers ++ others))) powers ++ following ((b && not (no_powers (powers ++ others))) && no_powers powers) others)
factors_joined coefficient [] [] true e = refl
factors_joined coefficient [] [] false e = refl
factors_joined coefficient [] (power ∷ others) true e = ap (λ b. joined (cond b (power ∷ others) (decimal coefficient ∷ power ∷ others))) e
factors_joined coefficient [] (power ∷ others) false e = ap (λ b. joined (cond b (power ∷ others) (decimal coefficient ∷ power ∷ others))) e
factors_joined coefficient (power ∷ powers) others true e =
    ap (λ b. joined (cond b (power ∷ (powers ++ others)) (decimal coefficient ∷ power ∷ (powers ++ others)))) e
    ∙ ap (λ (xs : List ℕ). power ++ xs) (flat_map-append (λ factor. codes "*" ++ factor) powers others)
    ∙ sym (append_assoc power (flat_map (λ factor. codes "*" ++ factor) powers) (flat_map (λ factor. codes "*" ++ factor) others))
factors_joined coefficient (power ∷ powers) others false e =
    ap (λ b. joined (cond b (power ∷ (powers ++ others)) (decimal coefficient ∷ power ∷ (powers ++ others)))) e
    ∙ ap (λ (xs : List ℕ). decimal coefficient ++ xs) (flat_map-append (λ factor. codes "*" ++ factor) (power ∷ powers) others)

-- the powers of the parameters, as they are printed after the coefficient
abbrev pub parameters_text : Ring → List (List ℕ) → List ℕ → Bool → List ℕ
parameters_text ring names exponents bare = following bare (powers_text (drop ring.variables names) (drop ring.variables exponents))

-- the powers of the variables, as they are printed after those of the parameters
abbrev pub variables_text : Ring → List (List ℕ) → List ℕ → Bool → List ℕ
variables_text ring names exponents bare =
    following (bare && list_all is_zero (drop ring.variables exponents)) (powers_text (take ring.variables names) (take ring.variables exponents))

pub term_left : (ring : Ring) (names : List (List ℕ)) (coefficient : ℕ) (exponents : List ℕ) (bare : Bool) (old : List ℕ)
    → length names ≡ places ring → length exponents ≡ places ring → bare ≡ ((coefficient == 1) && not (list_all is_zero exponents))
    → Leaves old old (term_text ring names (term coefficient exponents))
    (cond bare [] (decimal coefficient) ++ (parameters_text ring names exponents bare ++ variables_text ring names exponents bare))
term_left ring names coefficient exponents bare old h k e =
    let v = ring.variables in
    let ps = powers_text (drop v names) (drop v exponents) in
    let vs = powers_text (take v names) (take v exponents) in
    let same : length names ≡ length exponents = h ∙ sym k in
    let p : no_powers ps ≡ list_all is_zero (drop v exponents) =
    no_powers_of (drop v names) (drop v exponents) (length-drop v names ∙ ap (λ n. n - v) same ∙ sym (length-drop v exponents)) in
    let q : no_powers vs ≡ list_all is_zero (take v exponents) =
    no_powers_of (take v names) (take v exponents) (length-take v names ∙ ap (λ n. min v n) same ∙ sym (length-take v exponents)) in
    let all : list_all is_zero exponents ≡ (list_all is_zero (take v exponents) && list_all is_zero (drop v exponents)) =
    ap (λ xs. list_all is_zero xs) (sym (take-append-drop v exponents)) ∙ list_all-append is_zero (take v exponents) (drop v exponents) in
    let none : no_powers (ps ++ vs) ≡ list_all is_zero exponents =
    no_powers_append ps vs ∙ ap (λ b. b && no_powers vs) p ∙ ap (λ b. list_all is_zero (drop v exponents) && b) q
    ∙ and_comm (list_all is_zero (drop v exponents)) (list_all is_zero (take v exponents)) ∙ sym all in
    let is : ((coefficient == 1) && not (no_powers (ps ++ vs))) ≡ bare = ap (λ b. (coefficient == 1) && not b) none ∙ sym e in
    let text : term_text ring names (term coefficient exponents)
    ≡ cond bare [] (decimal coefficient) ++ (parameters_text ring names exponents bare ++ variables_text ring names exponents bare) =
    factors_joined coefficient ps vs (coefficient == 1) refl
    ∙ ap (λ b. cond b [] (decimal coefficient) ++ (following b ps ++ following (b && no_powers ps) vs)) is
    ∙ ap (λ b. cond bare [] (decimal coefficient) ++ (following bare ps ++ following (bare && b) vs)) p in
    leaves_equal _ (leaves_all old _) text
