-- A printed polynomial is read again.
use Rattle.std.proofs.Common.{◌≡◌, ℕ, ◌<◌, ◌≤◌, List, [], ◌∷◌, ◌++◌, map, replicate, codes, flat_map, Ok, refl, ap, ◌∙◌, subst, arith}
use Rattle.std.specs.List.{AllByRecursion}
use Rattle.std.proofs.Math.Nat.{zero-mod}
use Rattle.std.proofs.lemmas.Fmt.{decimal_digit}
use Rattle.cgs_exps.specs.Monomial.{degree}
use Rattle.cgs_tokens.specs.Tokens.{is_word}
use Rattle.cgs_poly.specs.Ring.{Ring}
use Rattle.cgs_poly.specs.Polynomial.{Term, term, places, canonical, IsCanonical, greatest_degree}
use Rattle.cgs_poly.proofs.CanonicalLemmas.{canonical_itself}
use Rattle.cgs_list.specs.Results.{and_then}
use Rattle.cgs_problem.specs.Lexemes.{Lexeme, name, number, plus, minus, times, power, opening, closing, equals}
use Rattle.cgs_problem.specs.Sums.{Reader, product, follow, one, with_term, terms_said, polynomial_said}
use Rattle.cgs_canonical.specs.Printing.{term_text, polynomial_text}
use Rattle.cgs_canonical.proofs.LexemeLemmas.{Says, Stops, IsName, says_nothing, says_append, plus_says, decimal_says}
use Rattle.cgs_canonical.proofs.FactorLemmas.{after}
use Rattle.cgs_canonical.proofs.MonomialLemmas.{IsReader, IsAllowed}
use Rattle.cgs_canonical.proofs.TermLemmas.{number_reads, term_said, term_says, term_reads, Starts, term_starts}

-- what a printed polynomial says
abbrev pub sum_said : Ring → List (List ℕ) → List Term → List Lexeme
sum_said ring names [] = number 0 ∷ []
sum_said ring names (t ∷ f) = term_said ring names t ++ after plus (map (term_said ring names) f)

-- its numbers are short enough for a token
abbrev pub IsShort : List Term → Type 0
IsShort f = AllByRecursion (λ (t : Term). (t.coefficient < 65536) × (degree t.exponents ≤ greatest_degree)) f

plus_stops : (ring : Ring) (names : List (List ℕ)) (f : List Term) → Stops is_word (flat_map (λ t. codes "+" ++ term_text ring names t) f)
plus_stops ring names [] = tt
plus_stops ring names (t ∷ f) = refl

plus_joined : (ring : Ring) (names : List (List ℕ)) (f : List Term) → AllByRecursion IsName names → IsShort f
    → Says (flat_map (λ t. codes "+" ++ term_text ring names t) f) (after plus (map (term_said ring names) f))
plus_joined ring names [] h s = says_nothing
plus_joined ring names (t ∷ f) h s =
    plus_says _ _ (says_append (term_text ring names t) (flat_map (λ t. codes "+" ++ term_text ring names t) f) (term_said ring names t)
    (after plus (map (term_said ring names) f)) (term_says ring names t h s.0.0 s.0.1) (plus_stops ring names f) (plus_joined ring names f h s.1))

zero_says : Says (codes "0") (number 0 ∷ [])
zero_says = subst (λ text. Says text (number 0 ∷ [])) (decimal_digit 0 (omega arith)) (decimal_says 0 (omega arith))

pub polynomial_says : (ring : Ring) (names : List (List ℕ)) (f : List Term) → AllByRecursion IsName names → IsShort f
    → Says (polynomial_text ring names f) (sum_said ring names f)
polynomial_says ring names [] h s = zero_says
polynomial_says ring names (t ∷ f) h s =
    says_append (term_text ring names t) (flat_map (λ t. codes "+" ++ term_text ring names t) f) (term_said ring names t)
    (after plus (map (term_said ring names) f)) (term_says ring names t h s.0.0 s.0.1) (plus_stops ring names f) (plus_joined ring names f h s.1)

-- a polynomial that a reader may have read
pub record IsReadable (reader : Reader) (f : List Term) : Type 0 where
  pub canonical : IsCanonical reader.ring f
  pub allowed : AllByRecursion (λ (t : Term). IsAllowed reader t.exponents) f

sum_reads : (reader : Reader) (t : Term) (f : List Term) → IsReader reader → IsCanonical reader.ring (t ∷ f)
    → AllByRecursion (λ (t : Term). IsAllowed reader t.exponents) (t ∷ f)
    → product reader (one reader) (term_said reader.ring reader.names t ++ after plus (map (term_said reader.ring reader.names) f)) ≡ Ok (t ∷ f)
unfolding follow
sum_reads reader t [] r c m = term_reads reader t [] r c.1 m.0 tt
sum_reads reader t (u ∷ f) r c m =
    term_reads reader t (after plus (map (term_said reader.ring reader.names) (u ∷ f))) r c.1 m.0 tt ∙ ap (with_term t) (sum_reads reader u f r c.4 m.1)

no_sign : (reader : Reader) (lexemes : List Lexeme) → Starts lexemes → terms_said reader lexemes ≡ product reader (one reader) lexemes
no_sign reader [] h = absurd h
no_sign reader (name word ∷ lexemes) h = refl
no_sign reader (number n ∷ lexemes) h = refl
no_sign reader (plus ∷ lexemes) h = absurd h
no_sign reader (minus ∷ lexemes) h = absurd h
no_sign reader (times ∷ lexemes) h = absurd h
no_sign reader (power ∷ lexemes) h = absurd h
no_sign reader (opening ∷ lexemes) h = absurd h
no_sign reader (closing ∷ lexemes) h = absurd h
no_sign reader (equals ∷ lexemes) h = absurd h

nothing_reads : (reader : Reader) → 0 < reader.ring.modulus → terms_said reader (number 0 ∷ []) ≡ Ok (term 0 (replicate (places reader.ring) 0) ∷ [])
unfolding follow
nothing_reads reader pos = number_reads reader 0 [] pos

-- What a printed polynomial says is that polynomial.
pub polynomial_reads : (reader : Reader) (f : List Term) → 0 < reader.ring.modulus → IsReader reader → IsReadable reader f
    → polynomial_said reader (sum_said reader.ring reader.names f) ≡ Ok f
polynomial_reads reader [] pos r h =
    let terms : terms_said reader (number 0 ∷ []) ≡ Ok (term 0 (replicate (places reader.ring) 0) ∷ []) = nothing_reads reader pos in
    let none : canonical reader.ring (term 0 (replicate (places reader.ring) 0) ∷ []) ≡ [] = rw (zero-mod reader.ring.modulus) refl in
    ap (λ r. and_then r (λ terms. Ok (canonical reader.ring terms))) terms ∙ ap (λ g. Ok g) none
polynomial_reads reader (t ∷ f) pos r h =
    let lexemes : List Lexeme = sum_said reader.ring reader.names (t ∷ f) in
    let terms : terms_said reader lexemes ≡ Ok (t ∷ f) =
    no_sign reader lexemes (term_starts reader.ring reader.names t (after plus (map (term_said reader.ring reader.names) f)))
    ∙ sum_reads reader t f r h.canonical h.allowed in
    ap (λ r. and_then r (λ terms. Ok (canonical reader.ring terms))) terms ∙ ap (λ g. Ok g) (canonical_itself reader.ring (t ∷ f) pos h.canonical)
