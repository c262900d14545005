-- A printed term is read again: its coefficient, unless that is left out, and its powers.
use Rattle.std.proofs.Common.{◌≡◌, ℕ, ◌*◌, ◌%◌, ◌<◌, ◌≤◌, Bool, true, false, cond, eqb, List, [], ◌∷◌, ◌++◌, take, drop, replicate, codes, decimal, refl, sym}
use Rattle.std.proofs.Common.{ap, ◌∙◌, arith, if◌then◌else◌, ◌==◌}
use Rattle.std.specs.List.{AllByRecursion, join_by}
use Rattle.std.proofs.Math.Nat.{mod-eq_of_lt, one-mul}
use Rattle.std.proofs.lemmas.Bool.{eqb-true}
use Rattle.cgs_list.proofs.ListLemmas.{all_append}
use Rattle.cgs_exps.specs.Monomial.{degree}
use Rattle.cgs_poly.specs.Ring.{Ring}
use Rattle.cgs_poly.specs.Polynomial.{Term, term, places, greatest_degree}
use Rattle.cgs_problem.specs.Lexemes.{Lexeme, name, number, plus, minus, times, power, opening, closing, equals}
use Rattle.cgs_problem.specs.Sums.{Reader, product, follow, one}
use Rattle.cgs_canonical.specs.Printing.{factors_text, term_text, monomial_text}
use Rattle.cgs_canonical.proofs.LexemeLemmas.{Says, IsName, says_nothing, says_append, decimal_says}
use Rattle.cgs_canonical.proofs.FactorLemmas.{EachSays, after, times_joined, times_stops, power_said, powers_said, NoPower}
use Rattle.cgs_canonical.proofs.MonomialLemmas.{monomial_said, monomial_says, monomial_reads, IsReader, IsAllowed}

-- what the factors of a term say
abbrev pub factors_said : ℕ → List (List Lexeme) → List Lexeme
factors_said c [] = number c ∷ []
factors_said c (piece ∷ pieces) = if c == 1 then piece ++ after times pieces else number c ∷ after times (piece ∷ pieces)

abbrev pub term_said : Ring → List (List ℕ) → Term → List Lexeme
term_said ring names t = factors_said t.coefficient (monomial_said ring names t.exponents)

factors_say : (c : ℕ) (texts : List (List ℕ)) (pieces : List (List Lexeme)) → c < 65536 → EachSays texts pieces
    → Says (join_by (λ factor. factor) (codes "*") (factors_text c texts)) (factors_said c pieces)
factors_say c [] [] small h = says_append (decimal c) [] (number c ∷ []) [] (decimal_says c (omega arith)) tt says_nothing
factors_say c [] (l ∷ ls) small h = absurd h
factors_say c (x ∷ a) [] small h = absurd h
factors_say c (text ∷ texts) (piece ∷ pieces) small h = step (eqb c 1)
  where
    step : (b : Bool)
        → Says (join_by (λ factor. factor) (codes "*") (cond b (text ∷ texts) (decimal c ∷ text ∷ texts)))
        (cond b (piece ++ after times pieces) (number c ∷ after times (piece ∷ pieces)))
    step true = says_append text _ piece (after times pieces) h.0 (times_stops texts) (times_joined texts pieces h.1)
    step false = says_append (decimal c) _ (number c ∷ []) (after times (piece ∷ pieces)) (decimal_says c (omega arith)) refl
        (times_joined (text ∷ texts) (piece ∷ pieces) h)

pub term_says : (ring : Ring) (names : List (List ℕ)) (t : Term) → AllByRecursion IsName names → t.coefficient < 65536 → degree t.exponents ≤ greatest_degree
    → Says (term_text ring names t) (term_said ring names t)
term_says ring names t h small low = factors_say t.coefficient (monomial_text ring names t.exponents) (monomial_said ring names t.exponents) small
    (monomial_says ring names t.exponents h low)

-- a coefficient, or none for 1, and then the powers

pub number_reads : (reader : Reader) (c : ℕ) (rest : List Lexeme) → c < reader.ring.modulus
    → product reader (one reader) (number c ∷ rest) ≡ follow reader (term c (replicate (places reader.ring) 0)) rest
unfolding product
number_reads reader c rest small =
    let e : c % reader.ring.modulus ≡ c = mod-eq_of_lt small in
    let n : 1 * (c % reader.ring.modulus) % reader.ring.modulus ≡ c = ap (λ k. k % reader.ring.modulus) (one-mul (c % reader.ring.modulus) ∙ e) ∙ e in
    ap (λ k. follow reader (term k (replicate (places reader.ring) 0)) rest) n

factors_read : (reader : Reader) (c : ℕ) (pieces : List (List Lexeme)) (rest : List Lexeme) → c < reader.ring.modulus
    → product reader (one reader) (factors_said c pieces ++ rest) ≡ follow reader (term c (replicate (places reader.ring) 0)) (after times pieces ++ rest)
unfolding follow
factors_read reader c [] rest small = number_reads reader c rest small
factors_read reader c (piece ∷ pieces) rest small = step (eqb c 1) refl
  where
    step : (b : Bool) → eqb c 1 ≡ b → product reader (one reader) (cond b (piece ++ after times pieces) (number c ∷ after times (piece ∷ pieces)) ++ rest)
        ≡ follow reader (term c (replicate (places reader.ring) 0)) (after times (piece ∷ pieces) ++ rest)
    step true e = ap (λ k. product reader (term k (replicate (places reader.ring) 0)) ((piece ++ after times pieces) ++ rest)) (sym (eqb-true c 1 e))
    step false e = number_reads reader c (after times (piece ∷ pieces) ++ rest) small

-- A printed term, read after 1, makes the term.
pub term_reads : (reader : Reader) (t : Term) (rest : List Lexeme) → IsReader reader → t.coefficient < reader.ring.modulus → IsAllowed reader t.exponents
    → NoPower rest
    → product reader (one reader) (term_said reader.ring reader.names t ++ rest) ≡ follow reader t rest
term_reads reader t rest r small m np =
    factors_read reader t.coefficient (monomial_said reader.ring reader.names t.exponents) rest small
    ∙ monomial_reads reader t.coefficient t.exponents rest r m np

-- A term begins with a name or a number.

abbrev pub Starts : List Lexeme → Type 0
Starts (name word ∷ lexemes) = Unit {0}
Starts (number n ∷ lexemes) = Unit {0}
Starts lexemes = ⊥

starts_append : (a b : List Lexeme) → Starts a → Starts (a ++ b)
starts_append [] b h = absurd h
starts_append (name word ∷ a) b h = tt
starts_append (number n ∷ a) b h = tt
starts_append (plus ∷ a) b h = absurd h
starts_append (minus ∷ a) b h = absurd h
starts_append (times ∷ a) b h = absurd h
starts_append (power ∷ a) b h = absurd h
starts_append (opening ∷ a) b h = absurd h
starts_append (closing ∷ a) b h = absurd h
starts_append (equals ∷ a) b h = absurd h

powers_start : (names : List (List ℕ)) (exponents : List ℕ) → AllByRecursion Starts (powers_said names exponents)
powers_start [] exponents = tt
powers_start (word ∷ names) [] = tt
powers_start (word ∷ names) (exponent ∷ exponents) = step (eqb exponent 0) (powers_start names exponents)
  where
    first : (b : Bool) → Starts (cond b (name word ∷ []) (name word ∷ power ∷ number exponent ∷ []))
    first true = tt
    first false = tt

    step : (b : Bool) → AllByRecursion Starts (powers_said names exponents)
        → AllByRecursion Starts (cond b (powers_said names exponents) (power_said word exponent ∷ powers_said names exponents))
    step true ih = ih
    step false ih = (first (eqb exponent 1), ih)

factors_start : (c : ℕ) (pieces : List (List Lexeme)) (rest : List Lexeme) → AllByRecursion Starts pieces → Starts (factors_said c pieces ++ rest)
factors_start c [] rest h = tt
factors_start c (piece ∷ pieces) rest h = step (eqb c 1)
  where
    step : (b : Bool) → Starts (cond b (piece ++ after times pieces) (number c ∷ after times (piece ∷ pieces)) ++ rest)
    step true = starts_append (piece ++ after times pieces) rest (starts_append piece (after times pieces) h.0)
    step false = tt

pub term_starts : (ring : Ring) (names : List (List ℕ)) (t : Term) (rest : List Lexeme) → Starts (term_said ring names t ++ rest)
term_starts ring names t rest =
    let v : ℕ = ring.variables in
    factors_start t.coefficient (monomial_said ring names t.exponents) rest
    (all_append Starts (powers_said (drop v names) (drop v t.exponents)) (powers_said (take v names) (take v t.exponents))
    (powers_start (drop v names) (drop v t.exponents)) (powers_start (take v names) (take v t.exponents)))
