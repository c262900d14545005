-- The head of a printed entry is read again: its path and its cause.
use Rattle.std.proofs.Common.{◌≡◌, ℕ, zero, suc, ◌+◌, ◌*◌, ◌/◌, ◌%◌, ◌<◌, ◌==◌, Bool, true, false, cond, ◌||◌, List, [], ◌∷◌, ◌++◌, codes, decimal}
use Rattle.std.proofs.Common.{flat_map, refl, ap, ◌∙◌, ◌^◌, arith, append_assoc}
use Rattle.std.specs.List.{AllByRecursion}
use Rattle.std.specs.Char.{is_ascii_digit, digit_value}
use Rattle.std.specs.Fmt.{digits, digits_onto, digit_glyph}
use Rattle.std.specs.Str.Parse.{AllDigits, digits_value_after}
use Rattle.std.proofs.Math.Nat.{mod-lt}
use Rattle.std.proofs.lemmas.Bool.Decides.{nat_tests}
use Rattle.std.proofs.lemmas.Fmt.{decimal_is_IsNumeral}
use Rattle.cgs_entry.specs.declared.entry.Cause.{Cause}
use Rattle.cgs_entry.specs.declared.entry.Cause.TheVariants.{Budget, Degree, Depth}
use Rattle.cgs_print.specs.Printing.{path_text, cause_word}
use Rattle.cgs_canonical.proofs.LexemeLemmas.{Passes, passes_append, passes_all, is_plain, digit_is, digit_plain}

-- decimal digits, however many

glyph_is_digit : (d : ℕ) → d < 10 → is_ascii_digit (digit_glyph false d) ≡ true
glyph_is_digit d h = grind (arith, nat_tests)

digits_pass_onto : (k n : ℕ) (more : List ℕ) → Passes is_ascii_digit more → Passes is_ascii_digit (digits_onto k 10 false n more)
digits_pass_onto zero n more h = h
digits_pass_onto (suc k) n more h =
    let first : is_ascii_digit (digit_glyph false (n % 10)) ≡ true = glyph_is_digit (n % 10) (mod-lt n (omega arith)) in
    chosen (n / 10 == 0) _ _ (first, h) (digits_pass_onto k (n / 10) (digit_glyph false (n % 10) ∷ more) (first, h))
  where
    chosen : (b : Bool) (x y : List ℕ) → Passes is_ascii_digit x → Passes is_ascii_digit y → Passes is_ascii_digit (cond b x y)
    chosen true x y p q = p
    chosen false x y p q = q

pub decimal_passes : (n : ℕ) → Passes is_ascii_digit (decimal n)
unfolding digits
decimal_passes n = digits_pass_onto 64 n [] tt

pub decimal_plain : (n : ℕ) → Passes is_plain (decimal n)
decimal_plain n = passes_all is_ascii_digit is_plain digit_plain (decimal n) (decimal_passes n)

-- what a path may have: digits, full stops and a minus sign

abbrev is_of_path : ℕ → Bool
is_of_path byte = is_ascii_digit byte || (byte == 45 || byte == 46)

digit_of_path : (b : ℕ) → is_ascii_digit b ≡ true → is_of_path b ≡ true
digit_of_path b h = rw h refl

decimal_of_path : (n : ℕ) → Passes is_of_path (decimal n)
decimal_of_path n = passes_all is_ascii_digit is_of_path digit_of_path (decimal n) (decimal_passes n)

numbers_of_path : (path : List ℕ) → Passes is_of_path (flat_map (λ number. codes "." ++ decimal number) path)
numbers_of_path [] = tt
numbers_of_path (n ∷ path) =
    (refl, passes_append is_of_path (decimal n) (flat_map (λ number. codes "." ++ decimal number) path) (decimal_of_path n) (numbers_of_path path))

path_passes : (path : List ℕ) → Passes is_of_path (path_text path)
path_passes [] = (refl, tt)
path_passes (n ∷ path) =
    passes_append is_of_path (decimal n) (flat_map (λ number. codes "." ++ decimal number) path) (decimal_of_path n) (numbers_of_path path)

of_path_plain : (b : ℕ) → is_of_path b ≡ true → is_plain b ≡ true
of_path_plain b h = grind (arith, nat_tests)

of_path_no_space : (b : ℕ) → is_of_path b ≡ true → (b == 32) ≡ false
of_path_no_space b h = grind (arith, nat_tests)

pub path_plain : (path : List ℕ) → Passes is_plain (path_text path)
path_plain path = passes_all is_of_path is_plain of_path_plain (path_text path) (path_passes path)

-- The numbers between full stops, where the digits of the first follow those of n. A space ends them, and a minus sign tells that there are none.
abbrev numbers_from : ℕ → List ℕ → List ℕ
numbers_from n [] = n ∷ []
numbers_from n (byte ∷ bytes) =
    cond (byte == 46) (n ∷ numbers_from 0 bytes)
    (cond (byte == 45) [] (cond (byte == 32) (n ∷ []) (numbers_from (n * 10 + digit_value byte) bytes)))

-- the path that begins a text
abbrev pub path_told : List ℕ → List ℕ
path_told text = numbers_from 0 text

-- a path ends there
abbrev pub Ends : List ℕ → Type 0
Ends [] = Unit {0}
Ends (byte ∷ bytes) = byte ≡ 32

digit_no_stop : (b : ℕ) → is_ascii_digit b ≡ true → (b == 46) ≡ false
digit_no_stop b h = grind (arith, nat_tests)

digit_no_minus : (b : ℕ) → is_ascii_digit b ≡ true → (b == 45) ≡ false
digit_no_minus b h = grind (arith, nat_tests)

digits_read : (ds rest : List ℕ) (n : ℕ) → AllDigits 10 ds → numbers_from n (ds ++ rest) ≡ numbers_from (digits_value_after 10 n ds) rest
digits_read [] rest n h = refl
digits_read (c ∷ ds) rest n h =
    let d : is_ascii_digit c ≡ true = digit_is c h.0 in
    rw (digit_no_stop c d, digit_no_minus c d, of_path_no_space c (digit_of_path c d)) (digits_read ds rest (n * 10 + digit_value c) h.1)

number_read : (n : ℕ) (rest : List ℕ) → n < 2 ^ 64 → numbers_from 0 (decimal n ++ rest) ≡ numbers_from n rest
number_read n rest small =
    let numeral = decimal_is_IsNumeral n small in
    digits_read (decimal n) rest 0 numeral.0.1 ∙ ap (λ k. numbers_from k rest) numeral.1

numbers_read : (n : ℕ) (path rest : List ℕ) → AllByRecursion (λ number. number < 2 ^ 64) path → Ends rest
    → numbers_from n (flat_map (λ number. codes "." ++ decimal number) path ++ rest) ≡ n ∷ path
numbers_read n [] [] h e = refl
numbers_read n [] (byte ∷ rest) h e = rw e refl
numbers_read n (m ∷ path) rest h e =
    let more : List ℕ = flat_map (λ number. codes "." ++ decimal number) path in
    ap (λ ns. n ∷ ns) (ap (numbers_from 0) (append_assoc (decimal m) more rest) ∙ number_read m (more ++ rest) h.0 ∙ numbers_read m path rest h.1 e)

pub path_reads : (path rest : List ℕ) → AllByRecursion (λ number. number < 2 ^ 64) path → Ends rest → path_told (path_text path ++ rest) ≡ path
path_reads [] rest h e = refl
path_reads (n ∷ path) rest h e =
    let more : List ℕ = flat_map (λ number. codes "." ++ decimal number) path in
    ap (numbers_from 0) (append_assoc (decimal n) more rest) ∙ number_read n (more ++ rest) h.0 ∙ numbers_read n path rest h.1 e

-- whether a text begins with a word
abbrev pub begins : List ℕ → List ℕ → Bool
begins [] text = true
begins (byte ∷ word) [] = false
begins (byte ∷ word) (first ∷ text) = cond (byte == first) (begins word text) false

abbrev cause_named : List ℕ → Cause
cause_named text = cond (begins (codes "budget") text) Budget (cond (begins (codes "degree") text) Degree Depth)

-- the cause behind the first space
abbrev pub cause_told : List ℕ → Cause
cause_told [] = Budget
cause_told (byte ∷ bytes) = cond (byte == 32) (cause_named bytes) (cause_told bytes)

cause_behind : (text rest : List ℕ) → Passes is_of_path text → cause_told (text ++ (32 ∷ rest)) ≡ cause_named rest
cause_behind [] rest h = refl
cause_behind (byte ∷ text) rest h = rw (of_path_no_space byte h.0) (cause_behind text rest h.1)

named_cause : (cause : Cause) → cause_named (cause_word cause) ≡ cause
named_cause Budget = refl
named_cause Degree = refl
named_cause Depth = refl

pub cause_reads : (path : List ℕ) (cause : Cause) → cause_told (path_text path ++ (32 ∷ cause_word cause)) ≡ cause
cause_reads path cause = cause_behind (path_text path) (cause_word cause) (path_passes path) ∙ named_cause cause
