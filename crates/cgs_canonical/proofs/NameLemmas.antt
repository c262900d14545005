-- The names that a line says are names.
use Rattle.std.proofs.Common.{◌≡◌, ℕ, zero, suc, ◌-◌, ◌+◌, ◌≤◌, Bool, true, false, cond, ◌==◌, List, [], ◌∷◌, ◌++◌, get_or, take, length, Some, None}
use Rattle.std.proofs.Common.{Result, Ok, Err, refl}
use Rattle.std.proofs.Common.{sym, ap, ◌∙◌, subst, append_assoc, arith, ltb, ltb-false, slice_range}
use Rattle.std.specs.List.{AllByRecursion, prefix_len}
use Rattle.std.specs.Char.{is_ascii_digit, is_ascii_alphabetic}
use Rattle.std.proofs.lemmas.Bool.Decides.{nat_tests}
use Rattle.std.proofs.lemmas.List.{drop_at, length-append, length-take}
use Rattle.std.proofs.lemmas.List.Sums.{prefix_len-le-length}
use Rattle.cgs_tokens.specs.declared.token.Format.TheVariants.{One}
use Rattle.cgs_tokens.specs.declared.token.Token.{Token}
use Rattle.cgs_tokens.specs.declared.token.TokenKind.TheVariants as kind
use Rattle.cgs_tokens.specs.declared.token.TokenFault.{TokenFault}
use Rattle.cgs_tokens.specs.declared.token.TokenFault.TheVariants.{Literal, LongName}
use Rattle.cgs_tokens.specs.Tokens.{is_blank, is_word, spanned, tokens_from, token_at, name_at, number_at, sign_in, sign_at, with_first, and_then}
use Rattle.cgs_problem.specs.declared.fault.TextKind.{TextKind}
use Rattle.cgs_problem.specs.Lexemes.{Lexeme, name, said, said_in, line_lexemes}
use Rattle.cgs_canonical.proofs.LexemeLemmas.{Passes, IsName, with_lexeme, first_said}

-- what holds of an answer, if there is one
abbrev pub Holds : {A E : Type 0} → (A → Type 0) → Result A E → Type 0
Holds P (Ok x) = P x
Holds P (Err e) = Unit {0}

-- a name is a name
abbrev pub IsLexeme : Lexeme → Type 0
IsLexeme (name text) = IsName text
IsLexeme lexeme = Unit {0}

front_passes : (p : ℕ → Bool) (bytes : List ℕ) → Passes p (take (prefix_len p bytes) bytes)
front_passes p [] = tt
front_passes p (b ∷ bytes) = step (p b) refl (front_passes p bytes)
  where
    step : (t : Bool) → p b ≡ t → Passes p (take (prefix_len p bytes) bytes) → Passes p (take (cond t (1 + prefix_len p bytes) 0) (b ∷ bytes))
    step true e ih = let n : 1 + prefix_len p bytes ≡ suc (prefix_len p bytes) = omega arith in rw n (e, ih)
    step false e ih = tt

letter_word : (b : ℕ) → is_ascii_alphabetic b ≡ true → is_word b ≡ true
letter_word b h = grind (arith, nat_tests)

slice_front : (front bytes : List ℕ) (n : ℕ) → slice_range (front ++ bytes) (length front) (length front + n) ≡ take n bytes
slice_front front bytes n =
    let k : (length front + n) - length front ≡ n = omega arith in
    rw (k, drop_at front bytes (length front) refl) refl

name_read : (b : ℕ) (bytes : List ℕ) → is_ascii_alphabetic b ≡ true → prefix_len is_word (b ∷ bytes) ≤ 32
    → IsName (take (prefix_len is_word (b ∷ bytes)) (b ∷ bytes))
name_read b bytes letter short =
    let n : prefix_len is_word (b ∷ bytes) ≡ suc (prefix_len is_word bytes) = rw (letter_word b letter) (omega arith) in
    let le : prefix_len is_word (b ∷ bytes) ≤ length (b ∷ bytes) = prefix_len-le-length is_word (b ∷ bytes) in
    let l : length (take (prefix_len is_word (b ∷ bytes)) (b ∷ bytes)) ≡ prefix_len is_word (b ∷ bytes) =
    omega (arith, length-take (prefix_len is_word (b ∷ bytes)) (b ∷ bytes)) in
    let first : get_or (take (prefix_len is_word (b ∷ bytes)) (b ∷ bytes)) 0 0 ≡ b = ap (λ k. get_or (take k (b ∷ bytes)) 0 0) n in
    record {
      letter = ap is_ascii_alphabetic first ∙ letter;
      word = front_passes is_word (b ∷ bytes);
      some = omega arith;
      short = omega arith;
    }

token_named : (front : List ℕ) (b : ℕ) (bytes : List ℕ) → Holds (λ t. IsLexeme (said (front ++ b ∷ bytes) t)) (token_at One (length front) (b ∷ bytes))
unfolding token_at name_at number_at sign_in
token_named front b bytes = first (is_ascii_alphabetic b) refl
  where
    line : List ℕ
    line = front ++ b ∷ bytes

    place : ℕ
    place = length front

    good : Result Token TokenFault → Type 0
    good r = Holds (λ t. IsLexeme (said line t)) r

    named : (t : Bool) → is_ascii_alphabetic b ≡ true → ltb 32 (prefix_len is_word (b ∷ bytes)) ≡ t
        → good (cond t (Err (LongName place)) (Ok (spanned kind.Name place (prefix_len is_word (b ∷ bytes)))))
    named true letter e = tt
    named false letter e = subst IsName (sym (slice_front front (b ∷ bytes) (prefix_len is_word (b ∷ bytes)))) (name_read b bytes letter (ltb-false _ _ e))

    numbered : (t : Bool) → good (cond t (Err (Literal place)) (Ok (spanned kind.Number place (prefix_len is_ascii_digit (b ∷ bytes)))))
    numbered true = tt
    numbered false = tt

    signed : (p m t w : Bool)
        → good (sign_at place (cond p (Some kind.Plus) (cond m (Some kind.Minus) (cond t (Some kind.Times) (cond w (Some kind.Power) None)))))
    signed true m t w = tt
    signed false true t w = tt
    signed false false true w = tt
    signed false false false true = tt
    signed false false false false = tt

    other : (t : Bool) → good (cond t (number_at place (b ∷ bytes)) (sign_at place (sign_in One b)))
    other true = numbered (ltb 18 (prefix_len is_ascii_digit (b ∷ bytes)))
    other false = signed (b == 43) (b == 45) (b == 42) (b == 94)

    first : (t : Bool) → is_ascii_alphabetic b ≡ t
        → good (cond t (name_at place (b ∷ bytes)) (cond (is_ascii_digit b) (number_at place (b ∷ bytes)) (sign_at place (sign_in One b))))
    first true e = named (ltb 32 (prefix_len is_word (b ∷ bytes))) e refl
    first false e = other (is_ascii_digit b)

joined_named : (line : List ℕ) (r : Result Token TokenFault) (f : Token → Result (List Token) TokenFault) → Holds (λ t. IsLexeme (said line t)) r
    → ((t : Token) → Holds (AllByRecursion IsLexeme) (said_in line (f t)))
    → Holds (AllByRecursion IsLexeme) (said_in line (and_then r (λ t. with_first t (f t))))
joined_named line (Err e) f h k = tt
joined_named line (Ok t) f h k = subst (Holds (AllByRecursion IsLexeme)) (sym (first_said line t (f t))) (before (said_in line (f t)) (k t))
  where
    before : (read : Result (List Lexeme) TextKind) → Holds (AllByRecursion IsLexeme) read → Holds (AllByRecursion IsLexeme) (with_lexeme (said line t) read)
    before (Ok lexemes) g = (h, g)
    before (Err e) g = tt

further : (front : List ℕ) (b : ℕ) (bytes : List ℕ) (k : ℕ)
    → Holds (AllByRecursion IsLexeme) (said_in ((front ++ b ∷ []) ++ bytes) (tokens_from One k (length (front ++ b ∷ [])) bytes))
    → Holds (AllByRecursion IsLexeme) (said_in (front ++ b ∷ bytes) (tokens_from One k (length front + 1) bytes))
further front b bytes k h =
    let n : length (front ++ b ∷ []) ≡ length front + 1 = length-append front (b ∷ []) in
    let l : (front ++ b ∷ []) ++ bytes ≡ front ++ b ∷ bytes = append_assoc front (b ∷ []) bytes in
    subst (Holds (AllByRecursion IsLexeme)) (ap (λ m. said_in ((front ++ b ∷ []) ++ bytes) (tokens_from One k m bytes)) n
    ∙ ap (λ m. said_in m (tokens_from One k (length front + 1) bytes)) l) h

tokens_named : (skip : ℕ) (front bytes : List ℕ) → Holds (AllByRecursion IsLexeme) (said_in (front ++ bytes) (tokens_from One skip (length front) bytes))
unfolding tokens_from
tokens_named zero front [] = tt
tokens_named (suc skip) front [] = tt
tokens_named (suc skip) front (b ∷ bytes) = further front b bytes skip (tokens_named skip (front ++ b ∷ []) bytes)
tokens_named zero front (b ∷ bytes) = step (is_blank b) (λ k. further front b bytes k (tokens_named k (front ++ b ∷ []) bytes))
  where
    step : (t : Bool) → ((k : ℕ) → Holds (AllByRecursion IsLexeme) (said_in (front ++ b ∷ bytes) (tokens_from One k (length front + 1) bytes)))
        → Holds (AllByRecursion IsLexeme) (said_in (front ++ b ∷ bytes)
        (cond t (tokens_from One 0 (length front + 1) bytes)
        (and_then (token_at One (length front) (b ∷ bytes))
        (λ token. with_first token (tokens_from One (token.end - (length front + 1)) (length front + 1) bytes)))))
    step true ih = ih 0
    step false ih = joined_named (front ++ b ∷ bytes) (token_at One (length front) (b ∷ bytes))
        (λ token. tokens_from One (token.end - (length front + 1)) (length front + 1) bytes) (token_named front b bytes) (λ t. ih (t.end - (length front + 1)))

-- The names that a line says are names.
pub lexemes_named : (line : List ℕ) → Holds (AllByRecursion IsLexeme) (line_lexemes line)
lexemes_named line = tokens_named 0 [] line
