-- The powers of a monomial are read again: each name finds its place.
use Rattle.std.proofs.Common.{◌≡◌, ℕ, zero, suc, ◌+◌, ◌≤◌, ◌⊎◌, inl, inr, Bool, true, false, cond, not, ◌||◌, eqb, ltb, List, [], ◌∷◌, ◌++◌, get_or, take, drop}
use Rattle.std.proofs.Common.{length, replicate, Ok, Some, refl, sym, ap, ◌∙◌, arith, sum, bytes_eq, position, append_assoc, append-nil}
use Rattle.std.specs.List.{AllByRecursion, list_any, position_or_len}
use Rattle.std.proofs.Math.Seq.{set-append_seam, get_or-append_seam}
use Rattle.std.proofs.lemmas.List.{length-append, take-append-drop, length-take, length-drop, length-replicate, replicate-append-replicate}
use Rattle.std.proofs.lemmas.List.Sums.{sum_by-append, sum_by-cons, sum_by-take-drop}
use Rattle.std.proofs.lemmas.List.Folds.{sum_by-replicate}
use Rattle.std.proofs.lemmas.Bool.{le-ltb, lt-ltb, eqb-true}
use Rattle.std.proofs.lemmas.Slice.Eq.{bytes_eq-Decides}
use Rattle.cgs_list.proofs.ListLemmas.{all_take, all_drop}
use Rattle.cgs_exps.specs.Monomial.{degree}
use Rattle.cgs_poly.specs.Ring.{Ring}
use Rattle.cgs_poly.specs.Polynomial.{term, places, greatest_degree}
use Rattle.cgs_problem.specs.Lexemes.{Lexeme, times}
use Rattle.cgs_problem.specs.Sums.{Reader, product, follow, place_in, place_of}
use Rattle.cgs_canonical.specs.Printing.{powers_text, monomial_text}
use Rattle.cgs_canonical.proofs.LexemeLemmas.{IsName}
use Rattle.cgs_canonical.proofs.FactorLemmas.{EachSays, after, power_said, powers_said, powers_say, each_append, NoPower, after_no_power, raised}
use Rattle.cgs_canonical.proofs.FactorLemmas.{power_reads}

-- none of the names stands before it, the earlier ones among them
abbrev pub AreNew : List (List ℕ) → List (List ℕ) → Type 0
AreNew before [] = Unit {0}
AreNew before (word ∷ names) = (list_any (bytes_eq word) before ≡ false) × AreNew (before ++ word ∷ []) names

same_word : (word : List ℕ) → bytes_eq word word ≡ true
same_word word = (bytes_eq-Decides word word).1 refl

position_new : (word : List ℕ) (front back : List (List ℕ)) → list_any (bytes_eq word) front ≡ false
    → position_or_len (bytes_eq word) (front ++ word ∷ back) ≡ length front
position_new word [] back h = rw (same_word word) refl
position_new word (w ∷ front) back h = step (bytes_eq word w) h (position_new word front back)
  where
    step : (b : Bool) → (b || list_any (bytes_eq word) front) ≡ false
        → (list_any (bytes_eq word) front ≡ false → position_or_len (bytes_eq word) (front ++ word ∷ back) ≡ length front)
        → cond (not b) (1 + position_or_len (bytes_eq word) (front ++ word ∷ back)) 0 ≡ length (w ∷ front)
    step true k ih = absurd (cc)
    step false k ih = rw (ih k) (omega arith)

place_is : (reader : Reader) (word : List ℕ) (front back : List (List ℕ)) → reader.names ≡ front ++ (word ∷ back) → list_any (bytes_eq word) front ≡ false
    → reader.barred ≤ length front
    → place_of reader word ≡ Ok (length front)
place_is reader word front back e h le =
    let n : position_or_len (bytes_eq word) (front ++ word ∷ back) ≡ length front = position_new word front back h in
    let l : length (front ++ (word ∷ back)) ≡ length front + length (word ∷ back) = length-append front (word ∷ back) in
    let in_range : ltb (length front) (length (front ++ (word ∷ back))) ≡ true = lt-ltb _ _ (omega arith) in
    let p : position (bytes_eq word) (front ++ (word ∷ back)) ≡ Some (length front) = rw (n, in_range) refl in
    let free : ltb (length front) reader.barred ≡ false = le-ltb _ _ le in
    ap (λ ns. place_in reader.barred (position (bytes_eq word) ns)) e ∙ ap (place_in reader.barred) p ∙ rw free refl

raised_is : (c e : ℕ) (a b : List ℕ) → raised (term c (a ++ 0 ∷ b)) (length a) e ≡ term c (a ++ e ∷ b)
raised_is c e a b = ap (term c) (set-append_seam a 0 b (get_or (a ++ 0 ∷ b) (length a) 0 + e)
    ∙ ap (λ k. a ++ k ∷ b) (let z : get_or (a ++ 0 ∷ b) (length a) 0 ≡ 0 = get_or-append_seam a 0 b 0 in omega arith))

degree_zeros : (a b : List ℕ) (n : ℕ) → degree (a ++ (replicate n 0 ++ b)) ≡ sum a + sum b
degree_zeros a b n = omega (arith, sum_by-append (λ x. x) a (replicate n 0 ++ b), sum_by-append (λ x. x) (replicate n 0) b, sum_by-replicate (λ x. x) n 0)

-- The powers at consecutive places fill them with their exponents.
pub powers_read : (reader : Reader) (c : ℕ) (front names back : List (List ℕ)) (a es b : List ℕ) (rest : List Lexeme) → NoPower rest
    → reader.names ≡ front ++ (names ++ back)
    → AreNew front names → length front ≡ length a
    → length names ≡ length es → reader.barred ≤ length front → reader.most ≤ greatest_degree → sum a + sum es + sum b ≤ reader.most
    → follow reader (term c (a ++ (replicate (length es) 0 ++ b))) (after times (powers_said names es) ++ rest) ≡ follow reader (term c (a ++ (es ++ b))) rest
unfolding follow
powers_read reader c front [] back a [] b rest np e new la ln bar most low = refl
powers_read reader c front [] back a (x ∷ es) b rest np e new la ln bar most low = absurd (omega arith)
powers_read reader c front (w ∷ names) back a [] b rest np e new la ln bar most low = absurd (omega arith)
powers_read reader c front (word ∷ names) back a (x ∷ es) b rest np e new la ln bar most low =
    let grown : length (front ++ word ∷ []) ≡ length front + 1 = length-append front (word ∷ []) in
    let grown_too : length (a ++ x ∷ []) ≡ length a + 1 = length-append a (x ∷ []) in
    let total : sum (a ++ x ∷ []) ≡ sum a + x = omega (arith, sum_by-append (λ x. x) a (x ∷ [])) in
    let first : sum (x ∷ es) ≡ x + sum es = sum_by-cons (λ n. n) x es in
    let ih = powers_read reader c (front ++ word ∷ []) names back (a ++ x ∷ []) es b rest np (e ∙ sym (append_assoc front (word ∷ []) (names ++ back))) new.1
    (omega arith) (omega arith) (omega arith) most (omega arith) in
    let zs : List ℕ = replicate (length es) 0 ++ b in
    let further : follow reader (term c (a ++ x ∷ zs)) (after times (powers_said names es) ++ rest) ≡ follow reader (term c (a ++ x ∷ (es ++ b))) rest =
    ap (λ m. follow reader (term c m) (after times (powers_said names es) ++ rest)) (sym (append_assoc a (x ∷ []) zs)) ∙ ih
    ∙ ap (λ m. follow reader (term c m) rest) (append_assoc a (x ∷ []) (es ++ b)) in
    let d : degree (a ++ 0 ∷ zs) ≡ sum a + sum b = degree_zeros a b (suc (length es)) in
    step (eqb x 0) refl further (omega arith) (omega arith)
  where
    step : (t : Bool) → eqb x 0 ≡ t → follow reader (term c (a ++ x ∷ (replicate (length es) 0 ++ b))) (after times (powers_said names es) ++ rest)
        ≡ follow reader (term c (a ++ x ∷ (es ++ b))) rest
        → x ≤ greatest_degree → degree (a ++ 0 ∷ (replicate (length es) 0 ++ b)) + x ≤ reader.most
        → follow reader (term c (a ++ 0 ∷ (replicate (length es) 0 ++ b)))
        (after times (cond t (powers_said names es) (power_said word x ∷ powers_said names es)) ++ rest) ≡ follow reader (term c (a ++ x ∷ (es ++ b))) rest
    step true q further small fits = ap (λ k. follow reader (term c (a ++ k ∷ (replicate (length es) 0 ++ b))) (after times (powers_said names es) ++ rest))
        (sym (eqb-true x 0 q)) ∙ further
    step false q further small fits =
        let zs : List ℕ = replicate (length es) 0 ++ b in
        let more : List Lexeme = after times (powers_said names es) ++ rest in
        let known : place_of reader word ≡ Ok (length a) = place_is reader word front (names ++ back) e new.0 bar ∙ ap (λ n. Ok n) la in
        let read : product reader (term c (a ++ 0 ∷ zs)) (power_said word x ++ more) ≡ follow reader (raised (term c (a ++ 0 ∷ zs)) (length a) x) more =
        power_reads reader (term c (a ++ 0 ∷ zs)) word (length a) x more (after_no_power (powers_said names es) rest np) known small fits in
        ap (product reader (term c (a ++ 0 ∷ zs))) (append_assoc (power_said word x) (after times (powers_said names es)) rest) ∙ read
        ∙ ap (λ t. follow reader t more) (raised_is c x a zs) ∙ further

-- A whole monomial

abbrev pub monomial_said : Ring → List (List ℕ) → List ℕ → List (List Lexeme)
monomial_said ring names exponents =
    powers_said (drop ring.variables names) (drop ring.variables exponents) ++ powers_said (take ring.variables names) (take ring.variables exponents)

pub monomial_says : (ring : Ring) (names : List (List ℕ)) (exponents : List ℕ) → AllByRecursion IsName names → degree exponents ≤ greatest_degree
    → EachSays (monomial_text ring names exponents) (monomial_said ring names exponents)
monomial_says ring names exponents h le =
    let v : ℕ = ring.variables in
    let total : sum (take v exponents) + sum (drop v exponents) ≡ sum exponents = sum_by-take-drop (λ x. x) exponents v in
    each_append (powers_text (drop v names) (drop v exponents)) (powers_text (take v names) (take v exponents)) (powers_said (drop v names) (drop v exponents))
    (powers_said (take v names) (take v exponents))
    (powers_say (drop v names) (drop v exponents) (all_drop IsName v names h) (omega arith))
    (powers_say (take v names) (take v exponents) (all_take IsName v names h) (omega arith))

pub after_append : (sign : Lexeme) (a b : List (List Lexeme)) (rest : List Lexeme) → after sign (a ++ b) ++ rest ≡ after sign a ++ (after sign b ++ rest)
after_append sign [] b rest = refl
after_append sign (piece ∷ a) b rest =
    ap (λ k. sign ∷ k) (append_assoc piece (after sign (a ++ b)) rest ∙ ap (λ k. piece ++ k) (after_append sign a b rest)
    ∙ sym (append_assoc piece (after sign a) (after sign b ++ rest)))

no_powers : (names : List (List ℕ)) (n : ℕ) → powers_said names (replicate n 0) ≡ []
no_powers [] n = refl
no_powers (word ∷ names) zero = refl
no_powers (word ∷ names) (suc n) = no_powers names n

-- what the names of a reader have to be, and which places may be used
pub record IsReader (reader : Reader) : Type 0 where
  pub named : length reader.names ≡ places reader.ring
  pub heads : AreNew [] (take reader.ring.variables reader.names)
  pub tails : AreNew (take reader.ring.variables reader.names) (drop reader.ring.variables reader.names)
  pub barred : reader.barred ≤ reader.ring.variables
  pub low : reader.most ≤ greatest_degree

-- a monomial that may be read: no barred variable is in it
pub record IsAllowed (reader : Reader) (exponents : List ℕ) : Type 0 where
  pub places : length exponents ≡ places reader.ring
  pub low : degree exponents ≤ reader.most
  pub free : (reader.barred ≡ 0) ⊎ (take reader.ring.variables exponents ≡ replicate reader.ring.variables 0)

tails_read : (reader : Reader) (c : ℕ) (exponents : List ℕ) (rest : List Lexeme) → IsReader reader → IsAllowed reader exponents → NoPower rest
    → follow reader (term c (replicate (places reader.ring) 0))
    (after times (powers_said (drop reader.ring.variables reader.names) (drop reader.ring.variables exponents)) ++ rest)
    ≡ follow reader (term c (replicate reader.ring.variables 0 ++ drop reader.ring.variables exponents)) rest
tails_read reader c exponents rest r m np =
    let v : ℕ = reader.ring.variables in
    let heads : List (List ℕ) = take v reader.names in
    let tails : List (List ℕ) = drop v reader.names in
    let b : List ℕ = drop v exponents in
    let named = r.named in
    let long = m.places in
    let low = m.low in
    let n : length b ≡ reader.ring.parameters = omega (arith, length-drop v exponents) in
    let names : reader.names ≡ heads ++ (tails ++ []) = sym (ap (λ k. heads ++ k) (append-nil tails) ∙ take-append-drop v reader.names) in
    let zeros : replicate {A = ℕ} (places reader.ring) 0 ≡ replicate v 0 ++ (replicate (length b) 0 ++ []) =
    sym (ap (λ k. replicate v 0 ++ k) (append-nil (replicate {A = ℕ} (length b) 0) ∙ ap (λ k. replicate {A = ℕ} k 0) n)
    ∙ replicate-append-replicate v reader.ring.parameters 0) in
    let total : sum (take v exponents) + sum b ≡ sum exponents = sum_by-take-drop (λ x. x) exponents v in
    let nil : sum (replicate v 0) ≡ 0 = omega (arith, sum_by-replicate (λ x. x) v 0) in
    let lh : length heads ≡ length (replicate {A = ℕ} v 0) = omega (arith, length-take v reader.names, length-replicate {A = ℕ} v 0) in
    let lt : length tails ≡ length b = omega (arith, length-drop v reader.names) in
    let bar : reader.barred ≤ length heads = omega (arith, r.barred, length-take v reader.names) in
    ap (λ k. follow reader (term c k) (after times (powers_said tails b) ++ rest)) zeros
    ∙ powers_read reader c heads tails [] (replicate v 0) b [] rest np names r.tails lh lt bar r.low (omega arith)
    ∙ ap (λ k. follow reader (term c (replicate v 0 ++ k)) rest) (append-nil b)

heads_read : (reader : Reader) (c : ℕ) (exponents : List ℕ) (rest : List Lexeme) → IsReader reader → IsAllowed reader exponents → NoPower rest
    → follow reader (term c (replicate reader.ring.variables 0 ++ drop reader.ring.variables exponents))
    (after times (powers_said (take reader.ring.variables reader.names) (take reader.ring.variables exponents)) ++ rest)
    ≡ follow reader (term c (take reader.ring.variables exponents ++ drop reader.ring.variables exponents)) rest
heads_read reader c exponents rest r m np = elim m.free [ inl none ↦ free none | inr absent ↦ barred absent ]
  where
    barred : take reader.ring.variables exponents ≡ replicate reader.ring.variables 0
        → follow reader (term c (replicate reader.ring.variables 0 ++ drop reader.ring.variables exponents))
        (after times (powers_said (take reader.ring.variables reader.names) (take reader.ring.variables exponents)) ++ rest)
        ≡ follow reader (term c (take reader.ring.variables exponents ++ drop reader.ring.variables exponents)) rest
    barred e =
        let v : ℕ = reader.ring.variables in
        let none : powers_said (take v reader.names) (take v exponents) ≡ [] = ap (powers_said (take v reader.names)) e ∙ no_powers (take v reader.names) v in
        ap (λ k. follow reader (term c (replicate v 0 ++ drop v exponents)) (after times k ++ rest)) none
        ∙ ap (λ k. follow reader (term c (k ++ drop v exponents)) rest) (sym e)

    free : reader.barred ≡ 0
        → follow reader (term c (replicate reader.ring.variables 0 ++ drop reader.ring.variables exponents))
        (after times (powers_said (take reader.ring.variables reader.names) (take reader.ring.variables exponents)) ++ rest)
        ≡ follow reader (term c (take reader.ring.variables exponents ++ drop reader.ring.variables exponents)) rest
    free e =
        let v : ℕ = reader.ring.variables in
        let a : List ℕ = take v exponents in
        let b : List ℕ = drop v exponents in
        let named = r.named in
        let long = m.places in
        let low = m.low in
        let n : v ≡ length a = omega (arith, length-take v exponents) in
        let total : sum a + sum b ≡ sum exponents = sum_by-take-drop (λ x. x) exponents v in
        let l : length (take v reader.names) ≡ length a = omega (arith, length-take v reader.names) in
        let nil : sum [] ≡ 0 = refl in
        ap (λ k. follow reader (term c (replicate k 0 ++ b)) (after times (powers_said (take v reader.names) a) ++ rest)) n
        ∙ powers_read reader c [] (take v reader.names) (drop v reader.names) [] a b rest np (sym (take-append-drop v reader.names)) r.heads refl l
        (omega arith) r.low (omega arith)

-- The powers of a printed monomial, read after 1, make the monomial.
pub monomial_reads : (reader : Reader) (c : ℕ) (exponents : List ℕ) (rest : List Lexeme) → IsReader reader → IsAllowed reader exponents → NoPower rest
    → follow reader (term c (replicate (places reader.ring) 0)) (after times (monomial_said reader.ring reader.names exponents) ++ rest)
    ≡ follow reader (term c exponents) rest
monomial_reads reader c exponents rest r m np =
    let v : ℕ = reader.ring.variables in
    let heads : List (List Lexeme) = powers_said (take v reader.names) (take v exponents) in
    let tails : List (List Lexeme) = powers_said (drop v reader.names) (drop v exponents) in
    ap (follow reader (term c (replicate (places reader.ring) 0))) (after_append times tails heads rest)
    ∙ tails_read reader c exponents (after times heads ++ rest) r m (after_no_power heads rest np)
    ∙ heads_read reader c exponents rest r m np
    ∙ ap (λ k. follow reader (term c k) rest) (take-append-drop v exponents)
