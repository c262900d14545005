-- The powers of a term, one after the other.
use Rattle.std.proofs.Common.{ℕ, ◌≡◌, ◌<◌, ◌≤◌, ◌⊎◌, inl, inr, Bool, true, false, List, [], ◌∷◌, ◌++◌, length, codes, refl, sym, ap, ◌∙◌, ◌==◌, cond, arith}
use Rattle.std.proofs.Common.{append_assoc}
use Rattle.std.proofs.lemmas.Bool.Decides.{nat_tests}
use Rattle.cgs_canonical.specs.Printing.{power_text, powers_text, following}

-- what stands before a power
abbrev pub separator : Bool → List ℕ
separator true = []
separator false = codes "*"

following_more : (bare : Bool) (power : List ℕ) (powers : List (List ℕ)) → following bare (power ∷ powers) ≡ separator bare ++ (power ++ following false powers)
following_more true power powers = refl
following_more false power powers = refl

pub power_is_next : (bare : Bool) (name : List ℕ) (exponent : ℕ) (names : List (List ℕ)) (exponents : List ℕ) → 0 < exponent
    → following bare (powers_text (name ∷ names) (exponent ∷ exponents))
    ≡ (separator bare ++ power_text name exponent) ++ following false (powers_text names exponents)
power_is_next bare name exponent names exponents h =
    let test : (exponent == 0) ≡ false = grind (arith, nat_tests) in
    ap (λ (b : Bool). following bare (cond b (powers_text names exponents) (power_text name exponent ∷ powers_text names exponents))) test
    ∙ following_more bare (power_text name exponent) (powers_text names exponents)
    ∙ sym (append_assoc (separator bare) (power_text name exponent) (following false (powers_text names exponents)))

pub power_is_left_out : (name : List ℕ) (exponent : ℕ) (names : List (List ℕ)) (exponents : List ℕ) → exponent ≤ 0
    → powers_text (name ∷ names) (exponent ∷ exponents) ≡ powers_text names exponents
power_is_left_out name exponent names exponents h =
    let test : (exponent == 0) ≡ true = grind (arith, nat_tests) in
    ap (λ (b : Bool). cond b (powers_text names exponents) (power_text name exponent ∷ powers_text names exponents)) test

following_none : (bare : Bool) → following bare [] ≡ []
following_none true = refl
following_none false = refl

pub no_power_is_next : (bare : Bool) (names : List (List ℕ)) (exponents : List ℕ) → (length names ≡ 0) ⊎ (length exponents ≡ 0)
    → following bare (powers_text names exponents) ≡ []
no_power_is_next bare [] exponents h = following_none bare
no_power_is_next bare (name ∷ names) [] h = following_none bare
no_power_is_next bare (name ∷ names) (exponent ∷ exponents) (inl h) = cc
no_power_is_next bare (name ∷ names) (exponent ∷ exponents) (inr h) = cc
