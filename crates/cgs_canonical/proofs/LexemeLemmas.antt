-- A text that is one piece of a line, and the lexemes that it reads as.
use Rattle.std.proofs.Common.{◌≡◌, ℕ, ◌-◌, ◌+◌, ◌^◌, ◌<◌, ◌≤◌, Bool, true, false, cond, ◌==◌, List, [], ◌∷◌, ◌++◌, get_or, length, Result, Ok, Err, refl, sym}
use Rattle.std.proofs.Common.{ap, ◌∙◌, subst, append_assoc, append-nil, arith, decimal, ltb, slice_range}
use Rattle.std.proofs.lemmas.Bool.{le-ltb}
use Rattle.std.proofs.lemmas.Bool.Decides.{nat_tests}
use Rattle.std.proofs.lemmas.List.{drop_at, take_at, length-append}
use Rattle.std.proofs.lemmas.Fmt.{decimal_is_IsNumeral, length-decimal-le}
use Rattle.std.specs.List.{prefix_len}
use Rattle.std.specs.Char.{is_ascii_digit, is_ascii_alphabetic, digit_value}
use Rattle.std.specs.Str.Parse.{AllDigits, digits_value}
use Rattle.cgs_tokens.specs.declared.token.Format.TheVariants.{One}
use Rattle.cgs_tokens.specs.declared.token.Token.{Token}
use Rattle.cgs_tokens.specs.declared.token.TokenKind.{TokenKind}
use Rattle.cgs_tokens.specs.declared.token.TokenKind.TheVariants as kind
use Rattle.cgs_tokens.specs.declared.token.TokenFault.{TokenFault}
use Rattle.cgs_tokens.specs.declared.token.TokenFault.TheVariants.{Literal, LongName}
use Rattle.cgs_tokens.specs.Tokens.{is_blank, is_word, spanned, at_most, tokens_from, token_at, name_at, number_at, sign_in, with_first}
use Rattle.cgs_tokens.proofs.ScanLemmas.{skips}
use Rattle.cgs_problem.specs.declared.fault.TextKind.{TextKind}
use Rattle.cgs_problem.specs.Lexemes.{Lexeme, name, number, plus, times, power, said, said_by, said_in, line_lexemes}

-- each element passes
abbrev pub Passes : (ℕ → Bool) → List ℕ → Type 0
Passes p [] = Unit {0}
Passes p (b ∷ bytes) = (p b ≡ true) × Passes p bytes

-- what follows does not go on with it
abbrev pub Stops : (ℕ → Bool) → List ℕ → Type 0
Stops p [] = Unit {0}
Stops p (b ∷ bytes) = p b ≡ false

pub passes_append : (p : ℕ → Bool) (a b : List ℕ) → Passes p a → Passes p b → Passes p (a ++ b)
passes_append p [] b h k = k
passes_append p (x ∷ a) b h k = (h.0, passes_append p a b h.1 k)

pub passes_all : (p q : ℕ → Bool) → ((b : ℕ) → p b ≡ true → q b ≡ true) → (bytes : List ℕ) → Passes p bytes → Passes q bytes
passes_all p q f [] h = tt
passes_all p q f (b ∷ bytes) h = (f b h.0, passes_all p q f bytes h.1)

stops_all : (p q : ℕ → Bool) → ((b : ℕ) → p b ≡ false → q b ≡ false) → (bytes : List ℕ) → Stops p bytes → Stops q bytes
stops_all p q f [] h = tt
stops_all p q f (b ∷ bytes) h = f b h

stops_append : (p : ℕ → Bool) (a b : List ℕ) → Stops p a → Stops p b → Stops p (a ++ b)
stops_append p [] b h k = k
stops_append p (x ∷ a) b h k = h

pub prefix_is : (p : ℕ → Bool) (front rest : List ℕ) → Passes p front → Stops p rest → prefix_len p (front ++ rest) ≡ length front
prefix_is p [] [] h s = refl
prefix_is p [] (b ∷ rest) h s = rw s refl
prefix_is p (b ∷ front) rest h s = rw (h.0, prefix_is p front rest h.1 s) (omega arith)

-- neither LF nor CR
abbrev pub is_plain : ℕ → Bool
is_plain byte = cond (byte == 10) false (cond (byte == 13) false true)

-- What the bytes after the front say, where the front was read.
abbrev pub said_after : List ℕ → List ℕ → Result (List Lexeme) TextKind
said_after front rest = said_in (front ++ rest) (tokens_from One 0 (length front) rest)

abbrev pub with_lexeme : Lexeme → Result (List Lexeme) TextKind → Result (List Lexeme) TextKind
with_lexeme l (Ok lexemes) = Ok (l ∷ lexemes)
with_lexeme l (Err e) = Err e

abbrev pub with_lexemes : List Lexeme → Result (List Lexeme) TextKind → Result (List Lexeme) TextKind
with_lexemes [] read = read
with_lexemes (l ∷ lexemes) read = with_lexeme l (with_lexemes lexemes read)

-- The text stands in one line, and says these lexemes wherever it stands, unless a letter, a digit or `_` follows.
pub record Says (text : List ℕ) (lexemes : List Lexeme) : Type 0 where
  pub plain : Passes is_plain text
  pub after : (front rest : List ℕ) → Stops is_word rest → said_after front (text ++ rest) ≡ with_lexemes lexemes (said_after (front ++ text) rest)

with_lexemes_append : (a b : List Lexeme) (read : Result (List Lexeme) TextKind) → with_lexemes a (with_lexemes b read) ≡ with_lexemes (a ++ b) read
with_lexemes_append [] b read = refl
with_lexemes_append (l ∷ a) b read = ap (with_lexeme l) (with_lexemes_append a b read)

all_lexemes : (lexemes : List Lexeme) → with_lexemes lexemes (Ok []) ≡ Ok lexemes
all_lexemes [] = refl
all_lexemes (l ∷ lexemes) = ap (with_lexeme l) (all_lexemes lexemes)

-- a line that says them
pub line_says : (text : List ℕ) (lexemes : List Lexeme) → Says text lexemes → line_lexemes text ≡ Ok lexemes
unfolding tokens_from
line_says text lexemes h =
    let e : said_after [] text ≡ with_lexemes lexemes (said_after text []) = ap (said_after []) (sym (append-nil text)) ∙ h.after [] [] tt in
    e ∙ all_lexemes lexemes

pub says_nothing : Says [] []
says_nothing = record { plain = tt; after = λ front rest s. ap (λ f. said_after f rest) (sym (append-nil front)) }

-- two texts of which the second does not begin with a letter, a digit or `_`
pub says_append : (a b : List ℕ) (ls ms : List Lexeme) → Says a ls → Stops is_word b → Says b ms → Says (a ++ b) (ls ++ ms)
says_append a b ls ms h s k = record {
  plain = passes_append is_plain a b h.plain k.plain;
  after = λ front rest t.
      ap (said_after front) (append_assoc a b rest) ∙ h.after front (b ++ rest) (stops_append is_word b rest s t)
      ∙ ap (with_lexemes ls) (k.after (front ++ a) rest t ∙ ap (λ f. with_lexemes ms (said_after f rest)) (append_assoc front a b))
      ∙ with_lexemes_append ls ms (said_after (front ++ (a ++ b)) rest);
}

-- one token, and then what follows

pub first_said : (line : List ℕ) (t : Token) (read : Result (List Token) TokenFault)
    → said_in line (with_first t read) ≡ with_lexeme (said line t) (said_in line read)
first_said line t (Ok tokens) = refl
first_said line t (Err e) = refl

tokens_after : (place : ℕ) (t : Token) (c : ℕ) (text rest : List ℕ) → is_blank c ≡ false → token_at One place (c ∷ (text ++ rest)) ≡ Ok t
    → t.end ≡ place + length (c ∷ text)
    → tokens_from One 0 place (c ∷ (text ++ rest)) ≡ with_first t (tokens_from One 0 (place + length (c ∷ text)) rest)
unfolding tokens_from
tokens_after place t c text rest b h e =
    let k : t.end - (place + 1) ≡ length text = omega arith in
    let go : tokens_from One (t.end - (place + 1)) (place + 1) (text ++ rest) ≡ tokens_from One 0 (place + length (c ∷ text)) rest =
    rw k (skips One (length text) (place + 1) (text ++ rest) ∙ rw (drop_at text rest (length text) refl) (ap (λ n. tokens_from One 0 n rest) (omega arith))) in
    rw (b, h) (ap (with_first t) go)

pub slice_is : (front text rest : List ℕ) → slice_range (front ++ (text ++ rest)) (length front) (length front + length text) ≡ text
slice_is front text rest =
    let n : (length front + length text) - length front ≡ length text = omega arith in
    rw (n, drop_at front (text ++ rest) (length front) refl) (take_at text rest (length text) refl)

token_said : (front : List ℕ) (k : TokenKind) (c : ℕ) (text rest : List ℕ) → is_blank c ≡ false
    → token_at One (length front) (c ∷ (text ++ rest)) ≡ Ok (spanned k (length front) (length (c ∷ text)))
    → said_after front (c ∷ (text ++ rest)) ≡ with_lexeme (said_by k (c ∷ text)) (said_after (front ++ c ∷ text) rest)
token_said front k c text rest b h =
    let line : List ℕ = front ++ (c ∷ (text ++ rest)) in
    let t : Token = spanned k (length front) (length (c ∷ text)) in
    let e : said_after front (c ∷ (text ++ rest)) ≡ with_lexeme (said line t) (said_in line (tokens_from One 0 (length front + length (c ∷ text)) rest)) =
    ap (said_in line) (tokens_after (length front) t c text rest b h refl) ∙ first_said line t (tokens_from One 0 (length front + length (c ∷ text)) rest) in
    let w : said line t ≡ said_by k (c ∷ text) = ap (said_by k) (slice_is front (c ∷ text) rest) in
    let n : length front + length (c ∷ text) ≡ length (front ++ c ∷ text) = sym (length-append front (c ∷ text)) in
    let l : line ≡ (front ++ c ∷ text) ++ rest = sym (append_assoc front (c ∷ text) rest) in
    e ∙ ap (λ m. with_lexeme m (said_in line (tokens_from One 0 (length front + length (c ∷ text)) rest))) w
    ∙ ap (λ m. with_lexeme (said_by k (c ∷ text)) (said_in line (tokens_from One 0 m rest))) n
    ∙ ap (λ m. with_lexeme (said_by k (c ∷ text)) (said_in m (tokens_from One 0 (length (front ++ c ∷ text)) rest))) l

token_says : (k : TokenKind) (c : ℕ) (text : List ℕ) → is_blank c ≡ false → Passes is_plain (c ∷ text)
    → ((place : ℕ) (rest : List ℕ) → Stops is_word rest → token_at One place (c ∷ (text ++ rest)) ≡ Ok (spanned k place (length (c ∷ text))))
    → Says (c ∷ text) (said_by k (c ∷ text) ∷ [])
token_says k c text b p h = record { plain = p; after = λ front rest s. token_said front k c text rest b (h (length front) rest s) }

-- a sign before a text
sign_says : (k : TokenKind) (c : ℕ) (text : List ℕ) (ls : List Lexeme) → is_blank c ≡ false → is_plain c ≡ true
    → ((place : ℕ) (rest : List ℕ) → token_at One place (c ∷ rest) ≡ Ok (spanned k place 1)) → Says text ls → Says (c ∷ text) (said_by k (c ∷ []) ∷ ls)
sign_says k c text ls b p h s = record {
  plain = (p, s.plain);
  after = λ front rest t.
      token_said front k c [] (text ++ rest) b (h (length front) (text ++ rest))
      ∙ ap (with_lexeme (said_by k (c ∷ []))) (s.after (front ++ c ∷ []) rest t
      ∙ ap (λ f. with_lexemes ls (said_after f rest)) (append_assoc front (c ∷ []) text));
}

pub times_says : (text : List ℕ) (ls : List Lexeme) → Says text ls → Says (42 ∷ text) (times ∷ ls)
unfolding token_at sign_in
times_says text ls s = sign_says kind.Times 42 text ls refl refl (λ place rest. refl) s

pub plus_says : (text : List ℕ) (ls : List Lexeme) → Says text ls → Says (43 ∷ text) (plus ∷ ls)
unfolding token_at sign_in
plus_says text ls s = sign_says kind.Plus 43 text ls refl refl (λ place rest. refl) s

pub power_says : (text : List ℕ) (ls : List Lexeme) → Says text ls → Says (94 ∷ text) (power ∷ ls)
unfolding token_at sign_in
power_says text ls s = sign_says kind.Power 94 text ls refl refl (λ place rest. refl) s

-- a space says nothing
pub space_says : (text : List ℕ) (ls : List Lexeme) → Says text ls → Says (32 ∷ text) ls
unfolding tokens_from
space_says text ls s = record {
  plain = (refl, s.plain);
  after = λ front rest t.
      let n : length front + 1 ≡ length (front ++ 32 ∷ []) = sym (length-append front (32 ∷ [])) in
      let l : front ++ (32 ∷ (text ++ rest)) ≡ (front ++ 32 ∷ []) ++ (text ++ rest) = sym (append_assoc front (32 ∷ []) (text ++ rest)) in
      ap (λ m. said_in (front ++ (32 ∷ (text ++ rest))) (tokens_from One 0 m (text ++ rest))) n
      ∙ ap (λ m. said_in m (tokens_from One 0 (length (front ++ 32 ∷ [])) (text ++ rest))) l
      ∙ s.after (front ++ 32 ∷ []) rest t ∙ ap (λ f. with_lexemes ls (said_after f rest)) (append_assoc front (32 ∷ []) text);
}

-- numbers

pub digit_is : (c : ℕ) → digit_value c < 10 → is_ascii_digit c ≡ true
digit_is c h = grind (arith, nat_tests)

digit_no_letter : (c : ℕ) → is_ascii_digit c ≡ true → is_ascii_alphabetic c ≡ false
digit_no_letter c h = grind (arith, nat_tests)

pub digit_plain : (c : ℕ) → is_ascii_digit c ≡ true → is_plain c ≡ true
digit_plain c h = grind (arith, nat_tests)

digit_no_blank : (c : ℕ) → is_ascii_digit c ≡ true → is_blank c ≡ false
digit_no_blank c h = grind (arith, nat_tests)

no_word_no_digit : (c : ℕ) → is_word c ≡ false → is_ascii_digit c ≡ false
no_word_no_digit c h = grind (arith, nat_tests)

word_plain : (c : ℕ) → is_word c ≡ true → is_plain c ≡ true
word_plain c h = grind (arith, nat_tests)

pub letter_no_blank : (c : ℕ) → is_ascii_alphabetic c ≡ true → is_blank c ≡ false
letter_no_blank c h = grind (arith, nat_tests)

digits_pass : (ds : List ℕ) → AllDigits 10 ds → Passes is_ascii_digit ds
digits_pass [] h = tt
digits_pass (c ∷ ds) h = (digit_is c h.0, digits_pass ds h.1)

within : (limit n : ℕ) (t : Result Token TokenFault) (f : TokenFault) → n ≤ limit → at_most limit n t f ≡ t
within limit n t f le = let short : ltb limit n ≡ false = le-ltb _ _ le in rw short refl

number_token : (place c : ℕ) (ds rest : List ℕ) → Passes is_ascii_digit (c ∷ ds) → length (c ∷ ds) ≤ 18 → Stops is_ascii_digit rest
    → token_at One place (c ∷ (ds ++ rest)) ≡ Ok (spanned kind.Number place (length (c ∷ ds)))
unfolding token_at number_at
number_token place c ds rest h short s =
    let token : ℕ → Result Token TokenFault = λ n. Ok (spanned kind.Number place n) in
    let n : prefix_len is_ascii_digit ((c ∷ ds) ++ rest) ≡ length (c ∷ ds) = prefix_is is_ascii_digit (c ∷ ds) rest h s in
    let number : number_at place ((c ∷ ds) ++ rest) ≡ token (length (c ∷ ds)) =
    ap (λ k. at_most 18 k (token k) (Literal place)) n ∙ within 18 (length (c ∷ ds)) (token (length (c ∷ ds))) (Literal place) short in
    chosen (is_ascii_alphabetic c) (is_ascii_digit c) _ _ _ (digit_no_letter c h.0) h.0 ∙ number
  where
    chosen : (a b : Bool) (x y z : Result Token TokenFault) → a ≡ false → b ≡ true → cond a x (cond b y z) ≡ y
    chosen a b x y z e f = rw (e, f) refl

digits_say : (ds : List ℕ) → AllDigits 10 ds → 0 < length ds → length ds ≤ 18 → Says ds (number (digits_value 10 ds) ∷ [])
digits_say [] h some short = absurd (omega arith)
digits_say (c ∷ ds) h some short =
    let p : Passes is_ascii_digit (c ∷ ds) = digits_pass (c ∷ ds) h in
    token_says kind.Number c ds (digit_no_blank c p.0) (passes_all is_ascii_digit is_plain digit_plain (c ∷ ds) p)
    (λ place rest s. number_token place c ds rest p short (stops_all is_word is_ascii_digit no_word_no_digit rest s))

-- a number in decimal digits
pub decimal_says : (n : ℕ) → n < 10 ^ 18 → Says (decimal n) (number n ∷ [])
decimal_says n lt =
    let numeral = decimal_is_IsNumeral n (omega arith) in
    subst (λ k. Says (decimal n) (number k ∷ [])) numeral.1
    (digits_say (decimal n) numeral.0.1 numeral.0.0 (length-decimal-le 18 n (omega arith) lt (omega arith)))

-- names

-- a letter, and then letters, digits and `_`, 32 bytes at most
pub record IsName (text : List ℕ) : Type 0 where
  pub letter : is_ascii_alphabetic (get_or text 0 0) ≡ true
  pub word : Passes is_word text
  pub some : 0 < length text
  pub short : length text ≤ 32

name_token : (place c : ℕ) (text rest : List ℕ) → IsName (c ∷ text) → Stops is_word rest
    → token_at One place (c ∷ (text ++ rest)) ≡ Ok (spanned kind.Name place (length (c ∷ text)))
unfolding token_at name_at
name_token place c text rest h s =
    let token : ℕ → Result Token TokenFault = λ n. Ok (spanned kind.Name place n) in
    let n : prefix_len is_word ((c ∷ text) ++ rest) ≡ length (c ∷ text) = prefix_is is_word (c ∷ text) rest h.word s in
    let named : name_at place ((c ∷ text) ++ rest) ≡ token (length (c ∷ text)) =
    ap (λ k. at_most 32 k (token k) (LongName place)) n ∙ within 32 (length (c ∷ text)) (token (length (c ∷ text))) (LongName place) h.short in
    chosen (is_ascii_alphabetic c) _ _ h.letter ∙ named
  where
    chosen : (a : Bool) (x y : Result Token TokenFault) → a ≡ true → cond a x y ≡ x
    chosen a x y e = rw e refl

pub name_says : (text : List ℕ) → IsName text → Says text (name text ∷ [])
name_says [] h = absurd (let some = h.some in omega arith)
name_says (c ∷ text) h = token_says kind.Name c text (letter_no_blank c h.letter) (passes_all is_word is_plain word_plain (c ∷ text) h.word)
    (λ place rest s. name_token place c text rest h s)
