-- Printed factors are read again: a power of a name multiplies the product by it.
use Rattle.std.proofs.Common.{◌≡◌, ℕ, ◌+◌, ◌≤◌, Bool, true, false, cond, eqb, List, [], ◌∷◌, ◌++◌, get_or, set, Ok, refl, sym, ap, ◌∙◌, subst}
use Rattle.std.proofs.Common.{arith, ltb, codes, decimal, flat_map, if◌then◌else◌, ◌==◌, sum, append_assoc}
use Rattle.std.specs.List.{AllByRecursion}
use Rattle.std.proofs.lemmas.Bool.{le-ltb, eqb-true}
use Rattle.std.proofs.lemmas.List.Sums.{sum_by-cons}
use Rattle.cgs_exps.specs.Monomial.{degree}
use Rattle.cgs_poly.specs.Polynomial.{Term, term, greatest_degree}
use Rattle.cgs_list.specs.Results.{and_then}
use Rattle.cgs_tokens.specs.Tokens.{is_word}
use Rattle.cgs_problem.specs.Lexemes.{Lexeme, name, number, plus, minus, times, power, opening, closing, equals}
use Rattle.cgs_problem.specs.Sums.{Reader, product, follow, powered, place_of, times_power}
use Rattle.cgs_canonical.specs.Printing.{power_text, powers_text}
use Rattle.cgs_canonical.proofs.LexemeLemmas.{Says, Stops, IsName, says_nothing, says_append, times_says, power_says, decimal_says, name_says}

-- the lexemes of the pieces, each after a sign
abbrev pub after : Lexeme → List (List Lexeme) → List Lexeme
after sign [] = []
after sign (piece ∷ pieces) = sign ∷ (piece ++ after sign pieces)

-- each text says the lexemes at its place
abbrev pub EachSays : List (List ℕ) → List (List Lexeme) → Type 0
EachSays [] [] = Unit {0}
EachSays [] (piece ∷ pieces) = ⊥
EachSays (text ∷ texts) [] = ⊥
EachSays (text ∷ texts) (piece ∷ pieces) = Says text piece × EachSays texts pieces

pub each_append : (a b : List (List ℕ)) (ls ms : List (List Lexeme)) → EachSays a ls → EachSays b ms → EachSays (a ++ b) (ls ++ ms)
each_append [] b [] ms h k = k
each_append [] b (l ∷ ls) ms h k = absurd h
each_append (x ∷ a) b [] ms h k = absurd h
each_append (x ∷ a) b (l ∷ ls) ms h k = (h.0, each_append a b ls ms h.1 k)

pub times_stops : (texts : List (List ℕ)) → Stops is_word (flat_map (λ text. codes "*" ++ text) texts)
times_stops [] = tt
times_stops (text ∷ texts) = refl

-- texts joined by asterisks
pub times_joined : (texts : List (List ℕ)) (pieces : List (List Lexeme)) → EachSays texts pieces
    → Says (flat_map (λ text. codes "*" ++ text) texts) (after times pieces)
times_joined [] [] h = says_nothing
times_joined [] (l ∷ ls) h = absurd h
times_joined (x ∷ a) [] h = absurd h
times_joined (text ∷ texts) (piece ∷ pieces) h =
    times_says _ _ (says_append text (flat_map (λ text. codes "*" ++ text) texts) piece (after times pieces) h.0 (times_stops texts)
    (times_joined texts pieces h.1))

-- what the powers of a monomial say

abbrev pub power_said : List ℕ → ℕ → List Lexeme
power_said word exponent = if exponent == 1 then name word ∷ [] else name word ∷ power ∷ number exponent ∷ []

abbrev pub powers_said : List (List ℕ) → List ℕ → List (List Lexeme)
powers_said [] exponents = []
powers_said (word ∷ names) [] = []
powers_said (word ∷ names) (exponent ∷ exponents) =
    if exponent == 0 then powers_said names exponents else power_said word exponent ∷ powers_said names exponents

raised_says : (word text : List ℕ) (ls : List Lexeme) → IsName word → Says text ls → Says (word ++ codes "^" ++ text) (name word ∷ power ∷ ls)
raised_says word text ls h s =
    subst (λ t. Says t (name word ∷ power ∷ ls)) (sym (append_assoc word (codes "^") text))
    (says_append word (94 ∷ text) (name word ∷ []) (power ∷ ls) (name_says word h) refl (power_says text ls s))

pub power_text_says : (word : List ℕ) (exponent : ℕ) → IsName word → exponent ≤ greatest_degree → Says (power_text word exponent) (power_said word exponent)
power_text_says word exponent h le = step (eqb exponent 1)
  where
    step : (b : Bool) → Says (cond b word (word ++ codes "^" ++ decimal exponent)) (cond b (name word ∷ []) (name word ∷ power ∷ number exponent ∷ []))
    step true = name_says word h
    step false = raised_says word (decimal exponent) (number exponent ∷ []) h (decimal_says exponent (omega arith))

pub powers_say : (names : List (List ℕ)) (exponents : List ℕ) → AllByRecursion IsName names → sum exponents ≤ greatest_degree
    → EachSays (powers_text names exponents) (powers_said names exponents)
powers_say [] exponents h le = tt
powers_say (word ∷ names) [] h le = tt
powers_say (word ∷ names) (exponent ∷ exponents) h le =
    let total : sum (exponent ∷ exponents) ≡ exponent + sum exponents = sum_by-cons (λ n. n) exponent exponents in
    step (eqb exponent 0) (omega arith) (powers_say names exponents h.1 (omega arith))
  where
    step : (b : Bool) → exponent ≤ greatest_degree → EachSays (powers_text names exponents) (powers_said names exponents)
        → EachSays (cond b (powers_text names exponents) (power_text word exponent ∷ powers_text names exponents))
        (cond b (powers_said names exponents) (power_said word exponent ∷ powers_said names exponents))
    step true small ih = ih
    step false small ih = (power_text_says word exponent h.0 small, ih)

-- how a power is read

pub product_of_name : (reader : Reader) (t : Term) (word : List ℕ) (lexemes : List Lexeme)
    → product reader t (name word ∷ lexemes) ≡ and_then (place_of reader word) (λ place. powered reader t place lexemes)
unfolding product powered
product_of_name reader t word [] = refl
product_of_name reader t word (power ∷ []) = refl
product_of_name reader t word (power ∷ number n ∷ lexemes) = refl
product_of_name reader t word (power ∷ name w ∷ lexemes) = refl
product_of_name reader t word (power ∷ plus ∷ lexemes) = refl
product_of_name reader t word (power ∷ minus ∷ lexemes) = refl
product_of_name reader t word (power ∷ times ∷ lexemes) = refl
product_of_name reader t word (power ∷ opening ∷ lexemes) = refl
product_of_name reader t word (power ∷ closing ∷ lexemes) = refl
product_of_name reader t word (power ∷ equals ∷ lexemes) = refl
product_of_name reader t word (power ∷ power ∷ lexemes) = refl
product_of_name reader t word (name w ∷ lexemes) = refl
product_of_name reader t word (number n ∷ lexemes) = refl
product_of_name reader t word (plus ∷ lexemes) = refl
product_of_name reader t word (minus ∷ lexemes) = refl
product_of_name reader t word (times ∷ lexemes) = refl
product_of_name reader t word (opening ∷ lexemes) = refl
product_of_name reader t word (closing ∷ lexemes) = refl
product_of_name reader t word (equals ∷ lexemes) = refl

-- no `^` comes first
abbrev pub NoPower : List Lexeme → Type 0
NoPower [] = Unit {0}
NoPower (power ∷ lexemes) = ⊥
NoPower (lexeme ∷ lexemes) = Unit {0}

pub after_no_power : (pieces : List (List Lexeme)) (rest : List Lexeme) → NoPower rest → NoPower (after times pieces ++ rest)
after_no_power [] rest h = h
after_no_power (piece ∷ pieces) rest h = tt

abbrev pub raised : Term → ℕ → ℕ → Term
raised t place e = term t.coefficient (set t.exponents place (get_or t.exponents place 0 + e))

times_power_is : (reader : Reader) (t : Term) (place e : ℕ) → degree t.exponents + e ≤ reader.most → times_power reader place e t ≡ Ok (raised t place e)
times_power_is reader t place e le = let low : ltb reader.most (degree t.exponents + e) ≡ false = le-ltb _ _ le in rw low refl

plain_name : (reader : Reader) (t : Term) (place : ℕ) (rest : List Lexeme) → NoPower rest
    → powered reader t place rest ≡ and_then (times_power reader place 1 t) (λ next. follow reader next rest)
unfolding powered
plain_name reader t place [] h = refl
plain_name reader t place (power ∷ rest) h = absurd h
plain_name reader t place (name w ∷ rest) h = refl
plain_name reader t place (number n ∷ rest) h = refl
plain_name reader t place (plus ∷ rest) h = refl
plain_name reader t place (minus ∷ rest) h = refl
plain_name reader t place (times ∷ rest) h = refl
plain_name reader t place (opening ∷ rest) h = refl
plain_name reader t place (closing ∷ rest) h = refl
plain_name reader t place (equals ∷ rest) h = refl

powered_reads : (reader : Reader) (t : Term) (place e : ℕ) (rest : List Lexeme) → e ≤ greatest_degree → degree t.exponents + e ≤ reader.most
    → powered reader t place (power ∷ number e ∷ rest) ≡ follow reader (raised t place e) rest
unfolding powered
powered_reads reader t place e rest le fits =
    let small : ltb greatest_degree e ≡ false = le-ltb _ _ le in
    rw (small, times_power_is reader t place e fits) refl

-- A printed power multiplies the product by it.
pub power_reads : (reader : Reader) (t : Term) (word : List ℕ) (place e : ℕ) (rest : List Lexeme) → NoPower rest → place_of reader word ≡ Ok place
    → e ≤ greatest_degree
    → degree t.exponents + e ≤ reader.most
    → product reader t (power_said word e ++ rest) ≡ follow reader (raised t place e) rest
power_reads reader t word place e rest h known le fits = step (eqb e 1) refl
  where
    step : (b : Bool) → eqb e 1 ≡ b → product reader t (cond b (name word ∷ []) (name word ∷ power ∷ number e ∷ []) ++ rest)
        ≡ follow reader (raised t place e) rest
    step true q =
        let one : e ≡ 1 = eqb-true e 1 q in
        product_of_name reader t word rest ∙ ap (λ p. and_then p (λ place. powered reader t place rest)) known ∙ plain_name reader t place rest h
        ∙ ap (λ r. and_then r (λ next. follow reader next rest)) (times_power_is reader t place 1 (omega arith))
        ∙ ap (λ k. follow reader (raised t place k) rest) (sym one)
    step false q =
        product_of_name reader t word (power ∷ number e ∷ rest) ∙ ap (λ p. and_then p (λ place. powered reader t place (power ∷ number e ∷ rest))) known
        ∙ powered_reads reader t place e rest le fits
