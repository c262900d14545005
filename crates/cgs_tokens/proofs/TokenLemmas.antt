-- The tokens that are read are slices of the line.
use Rattle.std.proofs.Common.{◌≡◌, ℕ, zero, suc, ◌+◌, ◌-◌, ◌<◌, ◌≤◌, Bool, true, false, cond, List, [], ◌∷◌, take, drop, length, Option, Some, None, Result}
use Rattle.std.proofs.Common.{Ok, Err, IfSome, refl, sym, ap}
use Rattle.std.proofs.Common.{◌∙◌, subst, arith, ltb, eqb}
use Rattle.std.proofs.lemmas.Bool.{ltb-false}
use Rattle.std.proofs.lemmas.Bool.Decides.{nat_tests}
use Rattle.std.proofs.lemmas.List.{length-drop, drop-drop}
use Rattle.std.proofs.lemmas.List.Sums.{prefix_len-le-length}
use Rattle.std.proofs.lemmas.List.Folds.{length-prefix_len}
use Rattle.std.specs.List.{prefix_len}
use Rattle.std.specs.Char.{is_ascii_digit, is_ascii_alphabetic, digit_value}
use Rattle.std.specs.Str.Parse.{AllDigits}
use Rattle.cgs_tokens.specs.declared.token.Format.{Format}
use Rattle.cgs_tokens.specs.declared.token.Format.TheVariants.{One, Two}
use Rattle.cgs_tokens.specs.declared.token.Token.{Token}
use Rattle.cgs_tokens.specs.declared.token.TokenKind.{TokenKind}
use Rattle.cgs_tokens.specs.declared.token.TokenKind.TheVariants as kind
use Rattle.cgs_tokens.specs.declared.token.TokenFault.{TokenFault}
use Rattle.cgs_tokens.specs.declared.token.TokenFault.TheVariants.{Literal, LongName}
use Rattle.cgs_tokens.specs.Tokens.{is_blank, is_word, spanned, at_most, tokens_from, tokens_of, token_at, name_at, number_at, bracket_in, sign_in, sign_at}
use Rattle.cgs_tokens.specs.Tokens.{with_first, and_then}
use Rattle.cgs_tokens.specs.Lexemes.{IsToken, IsText, AreTokens}

digit_is : (c : ℕ) → is_ascii_digit c ≡ true → digit_value c < 10
digit_is c h = grind (arith, nat_tests)

all_digits : (bytes : List ℕ) → AllDigits 10 (take (prefix_len is_ascii_digit bytes) bytes)
all_digits [] = tt
all_digits (b ∷ bytes) = step (all_digits bytes) (is_ascii_digit b) refl
  where
    step : AllDigits 10 (take (prefix_len is_ascii_digit bytes) bytes) → (t : Bool) → is_ascii_digit b ≡ t
        → AllDigits 10 (take (cond t (1 + prefix_len is_ascii_digit bytes) 0) (b ∷ bytes))
    step rest true e = let k : 1 + prefix_len is_ascii_digit bytes ≡ suc (prefix_len is_ascii_digit bytes) = omega arith in rw k (digit_is b e, rest)
    step rest false e = tt

spans : (line : List ℕ) (k : TokenKind) (place n : ℕ) → place ≤ length line → n ≤ length (drop place line) → IsText k (take n (drop place line))
    → IsToken line (spanned k place n)
spans line k place n le fits text =
    let e : (place + n) - place ≡ n = omega arith in
    record {
      ordered = omega arith;
      within = omega (arith, length-drop place line);
      text = subst (λ m. IsText k (take m (drop place line))) (sym e) text;
    }

short_enough : (limit n : ℕ) (x t : Token) (f : TokenFault) → at_most limit n (Ok x) f ≡ Ok t → (n ≤ limit) × (x ≡ t)
short_enough limit n x t f h = step (ltb limit n) refl h
  where
    step : (b : Bool) → ltb limit n ≡ b → cond b (Err f) (Ok x) ≡ Ok t → (n ≤ limit) × (x ≡ t)
    step true e h = absurd (cc)
    step false e h = (ltb-false limit n e, cc)

name_is : (line : List ℕ) (place : ℕ) (t : Token) → place ≤ length line → name_at place (drop place line) ≡ Ok t → IsToken line t
unfolding name_at
name_is line place t le h =
    let bytes = drop place line in
    let fits = short_enough 32 (prefix_len is_word bytes) (spanned kind.Name place (prefix_len is_word bytes)) t (LongName place) h in
    subst (IsToken line) fits.1 (spans line kind.Name place (prefix_len is_word bytes) le (prefix_len-le-length is_word bytes) tt)

number_is : (line : List ℕ) (place : ℕ) (t : Token) → place ≤ length line → number_at place (drop place line) ≡ Ok t → IsToken line t
unfolding number_at
number_is line place t le h =
    let bytes = drop place line in
    let fits = short_enough 18 (prefix_len is_ascii_digit bytes) (spanned kind.Number place (prefix_len is_ascii_digit bytes)) t (Literal place) h in
    let short : length (take (prefix_len is_ascii_digit bytes) bytes) ≤ 18 = omega (arith, length-prefix_len is_ascii_digit bytes, fits.0) in
    subst (IsToken line) fits.1 (spans line kind.Number place (prefix_len is_ascii_digit bytes) le (prefix_len-le-length is_ascii_digit bytes)
    (all_digits bytes, short))

-- a kind whose text may be anything
abbrev IsSign : TokenKind → Type 0
IsSign kind.Number = ⊥
IsSign k = Unit {0}

any_text : (k : TokenKind) (text : List ℕ) → IsSign k → IsText k text
any_text kind.Name text s = tt
any_text kind.Number text s = absurd s
any_text kind.Plus text s = tt
any_text kind.Minus text s = tt
any_text kind.Times text s = tt
any_text kind.Power text s = tt
any_text kind.Open text s = tt
any_text kind.Close text s = tt
any_text kind.Equal text s = tt

choice : (b : Bool) (k : TokenKind) (rest : Option TokenKind) → IsSign k → IfSome rest IsSign → IfSome (cond b (Some k) rest) IsSign
choice true k rest s more = s
choice false k rest s more = more

bracket : (format : Format) (byte : ℕ) → IfSome (bracket_in format byte) IsSign
bracket One byte = tt
bracket Two byte = choice (eqb byte 40) kind.Open (cond (eqb byte 41) (Some kind.Close) (cond (eqb byte 61) (Some kind.Equal) None)) tt
    (choice (eqb byte 41) kind.Close (cond (eqb byte 61) (Some kind.Equal) None) tt (choice (eqb byte 61) kind.Equal None tt tt))

sign_of : (format : Format) (byte : ℕ) → IfSome (sign_in format byte) IsSign
unfolding sign_in
sign_of format byte =
    let power = cond (eqb byte 94) (Some kind.Power) (bracket_in format byte) in
    let times = cond (eqb byte 42) (Some kind.Times) power in
    let minus = cond (eqb byte 45) (Some kind.Minus) times in
    choice (eqb byte 43) kind.Plus minus tt (choice (eqb byte 45) kind.Minus times tt (choice (eqb byte 42) kind.Times power tt
    (choice (eqb byte 94) kind.Power (bracket_in format byte) tt (bracket format byte))))

sign_is : (line : List ℕ) (place : ℕ) (sign : Option TokenKind) (t : Token) → place < length line → IfSome sign IsSign → sign_at place sign ≡ Ok t
    → IsToken line t
sign_is line place (Some k) t lt s h =
    subst (IsToken line) (cc) (spans line k place 1 (omega arith) (omega (arith, length-drop place line)) (any_text k (take 1 (drop place line)) s))
sign_is line place None t lt s h = absurd (cc)

token_is : (format : Format) (line : List ℕ) (place byte : ℕ) (bytes : List ℕ) (t : Token) → byte ∷ bytes ≡ drop place line → place < length line
    → token_at format place (byte ∷ bytes) ≡ Ok t → IsToken line t
unfolding token_at
token_is format line place byte bytes t e lt h = letter (is_ascii_alphabetic byte) h
  where
    digit : (b : Bool) → cond b (number_at place (byte ∷ bytes)) (sign_at place (sign_in format byte)) ≡ Ok t → IsToken line t
    digit true h = number_is line place t (omega arith) (sym (ap (number_at place) e) ∙ h)
    digit false h = sign_is line place (sign_in format byte) t lt (sign_of format byte) h

    letter : (b : Bool)
        → cond b (name_at place (byte ∷ bytes)) (cond (is_ascii_digit byte) (number_at place (byte ∷ bytes)) (sign_at place (sign_in format byte))) ≡ Ok t
        → IsToken line t
    letter true h = name_is line place t (omega arith) (sym (ap (name_at place) e) ∙ h)
    letter false h = digit (is_ascii_digit byte) h

next_bytes : (line : List ℕ) (place byte : ℕ) (bytes : List ℕ) → byte ∷ bytes ≡ drop place line → bytes ≡ drop (place + 1) line
next_bytes line place byte bytes e =
    ap (drop 1) e ∙ drop-drop 1 place line

within : (line : List ℕ) (place byte : ℕ) (bytes : List ℕ) → byte ∷ bytes ≡ drop place line → place < length line
within line place byte bytes e = omega (arith, length-drop place line, ap length e)

tokens_from_are : (format : Format) (line : List ℕ) (skip place : ℕ) (bytes : List ℕ) (ts : List Token) → bytes ≡ drop place line
    → tokens_from format skip place bytes ≡ Ok ts → AreTokens line ts
unfolding tokens_from
tokens_from_are format line skip place [] ts e h = let none : [] ≡ ts = ended skip h in subst (AreTokens line) none tt
  where
    ended : (skip : ℕ) → tokens_from format skip place [] ≡ Ok ts → [] ≡ ts
    ended zero h = cc
    ended (suc skip) h = cc
tokens_from_are format line (suc skip) place (byte ∷ bytes) ts e h = tokens_from_are format line skip (place + 1) bytes ts
    (next_bytes line place byte bytes e) h
tokens_from_are format line zero place (byte ∷ bytes) ts e h =
    blank (λ (skip : ℕ) (us : List Token) (k : tokens_from format skip (place + 1) bytes ≡ Ok us). tokens_from_are format line skip (place + 1) bytes us
    (next_bytes line place byte bytes e) k) (is_blank byte) h
  where
    first : (t : Token) (rest : Result (List Token) TokenFault) → IsToken line t → ((us : List Token) → rest ≡ Ok us → AreTokens line us)
        → with_first t rest ≡ Ok ts → AreTokens line ts
    first t (Ok us) i all h = let e : t ∷ us ≡ ts = cc in subst (AreTokens line) e (i, all us refl)
    first t (Err f) i all h = absurd (cc)

    token : ((skip : ℕ) (us : List Token) → tokens_from format skip (place + 1) bytes ≡ Ok us → AreTokens line us) → (r : Result Token TokenFault)
        → token_at format place (byte ∷ bytes) ≡ r → and_then r (λ t. with_first t (tokens_from format (t.end - (place + 1)) (place + 1) bytes)) ≡ Ok ts
        → AreTokens line ts
    token all (Ok t) r h = first t (tokens_from format (t.end - (place + 1)) (place + 1) bytes)
        (token_is format line place byte bytes t e (within line place byte bytes e) r) (all (t.end - (place + 1))) h
    token all (Err f) r h = absurd (cc)

    blank : ((skip : ℕ) (us : List Token) → tokens_from format skip (place + 1) bytes ≡ Ok us → AreTokens line us) → (b : Bool)
        → cond b (tokens_from format 0 (place + 1) bytes)
        (and_then (token_at format place (byte ∷ bytes)) (λ t. with_first t (tokens_from format (t.end - (place + 1)) (place + 1) bytes))) ≡ Ok ts
        → AreTokens line ts
    blank all true h = all 0 ts h
    blank all false h = token all (token_at format place (byte ∷ bytes)) refl h

-- The tokens that are read are slices of the line.
pub tokens_are : (format : Format) (line : List ℕ) (ts : List Token) → tokens_of format line ≡ Ok ts → AreTokens line ts
tokens_are format line ts h = tokens_from_are format line 0 0 line ts refl h
