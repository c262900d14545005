-- A printed line is read again, and the text goes on behind it.
use Rattle.std.proofs.Common.{◌≡◌, ℕ, ◌+◌, ◌==◌, Bool, true, false, cond, ◌&&◌, ltb, leb, List, [], ◌∷◌, ◌++◌, get_or, length, codes, Ok, refl, ap, ◌∙◌, arith}
use Rattle.std.proofs.Common.{append_assoc, leb-true, ltb-true}
use Rattle.std.proofs.lemmas.Bool.Decides.{nat_tests}
use Rattle.std.specs.List.{list_all}
use Rattle.std.specs.Char.{is_ascii_alphabetic}
use Rattle.cgs_list.specs.Results.{and_then}
use Rattle.cgs_tokens.specs.Tokens.{is_word}
use Rattle.cgs_problem.specs.Lexemes.{Lexeme, name, line_lexemes}
use Rattle.cgs_problem.specs.Lines.{on_first, lines_of, without_cr, is_passed_over}
use Rattle.cgs_problem.specs.Drafts.{Stage, field_line, parameters_line, variables_line, order_line, body, ended, PartialProblem, line_said}
use Rattle.cgs_problem.specs.Reading.{line_read, taken, at_line, read_from}
use Rattle.cgs_canonical.proofs.LexemeLemmas.{letter_no_blank, Says, Passes, Stops, is_plain, line_says, IsName, says_append, name_says}

no_line_feed : (b : ℕ) → is_plain b ≡ true → (b == 10) ≡ false
no_line_feed b h = grind (arith, nat_tests)

no_return : (b : ℕ) → is_plain b ≡ true → (b == 13) ≡ false
no_return b h = grind (arith, nat_tests)

pub first_line : (line rest : List ℕ) → Passes is_plain line → lines_of (line ++ 10 ∷ rest) ≡ line ∷ lines_of rest
first_line [] rest h = refl
first_line (b ∷ line) rest h = rw (no_line_feed b h.0) (ap (on_first b) (first_line line rest h.1))

no_cr : (line : List ℕ) → Passes is_plain line → without_cr line ≡ line
no_cr [] h = refl
no_cr (b ∷ []) h = rw (no_return b h.0) refl
no_cr (b ∷ c ∷ line) h = ap (λ l. b ∷ l) (no_cr (c ∷ line) h.1)

-- a stage after which lines may come
abbrev pub GoesOn : Stage → Type 0
GoesOn ended = ⊥
GoesOn stage = Unit {0}

line_read_is : (stage : Stage) (draft : PartialProblem) (line : List ℕ) → GoesOn stage
    → line_read stage draft line ≡ and_then (line_lexemes line) (line_said stage draft)
line_read_is field_line draft line h = refl
line_read_is parameters_line draft line h = refl
line_read_is variables_line draft line h = refl
line_read_is order_line draft line h = refl
line_read_is body draft line h = refl
line_read_is ended draft line h = absurd h

taken_is : (draft next : PartialProblem) (line : List ℕ) (lexemes : List Lexeme) → Says line lexemes → is_passed_over line ≡ false → GoesOn draft.stage
    → line_said draft.stage draft lexemes ≡ Ok next
    → taken draft (without_cr line) ≡ Ok next
taken_is draft next line lexemes s shown on said =
    ap (taken draft) (no_cr line s.plain) ∙ ap (λ b. cond b (Ok draft) (line_read draft.stage draft line)) shown ∙ line_read_is draft.stage draft line on
    ∙ ap (λ l. and_then l (line_said draft.stage draft)) (line_says line lexemes s) ∙ said

-- A line that says these lexemes makes of the draft what they say.
line_reads : (n : ℕ) (draft next : PartialProblem) (line rest : List ℕ) (lexemes : List Lexeme) → Says line lexemes → is_passed_over line ≡ false
    → GoesOn draft.stage
    → line_said draft.stage draft lexemes ≡ Ok next
    → read_from n draft (lines_of (line ++ codes "\n" ++ rest)) ≡ read_from (n + 1) next (lines_of rest)
unfolding read_from
line_reads n draft next line rest lexemes s shown on said =
    let cut : lines_of (line ++ codes "\n" ++ rest) ≡ line ∷ lines_of rest = ap lines_of (append_assoc line (codes "\n") rest) ∙ first_line line rest s.plain in
    ap (read_from n draft) cut ∙ ap (λ r. at_line n r (λ next. read_from (n + 1) next (lines_of rest))) (taken_is draft next line lexemes s shown on said)

-- a line that begins with a name

letter_no_hash : (b : ℕ) → is_ascii_alphabetic b ≡ true → (b == 35) ≡ false
letter_no_hash b h = grind (arith, nat_tests)

name_shown : (word text : List ℕ) → IsName word → is_passed_over (word ++ text) ≡ false
name_shown [] text h = absurd (let some = h.some in omega arith)
name_shown (b ∷ word) text h = rw (letter_no_blank b h.letter, letter_no_hash b h.letter) refl

-- A line of a keyword and a text makes of the draft what they say.
pub keyword_reads : (n : ℕ) (draft next : PartialProblem) (word text rest : List ℕ) (lexemes : List Lexeme) → IsName word → Stops is_word text
    → Says text lexemes
    → GoesOn draft.stage
    → line_said draft.stage draft (name word ∷ lexemes) ≡ Ok next
    → read_from n draft (lines_of (word ++ text ++ codes "\n" ++ rest)) ≡ read_from (n + 1) next (lines_of rest)
keyword_reads n draft next word text rest lexemes h stop s on said =
    line_reads n draft next (word ++ text) rest (name word ∷ lexemes) (says_append word text (name word ∷ []) lexemes (name_says word h) stop s)
    (name_shown word text h) on said

-- a name that is written out

abbrev is_name : List ℕ → Bool
is_name word = is_ascii_alphabetic (get_or word 0 0) && (list_all is_word word && (ltb 0 (length word) && leb (length word) 32))

both : (a b : Bool) → (a && b) ≡ true → (a ≡ true) × (b ≡ true)
both true b e = (refl, e)
both false b e = absurd (cc)

pub passing : (p : ℕ → Bool) (text : List ℕ) → list_all p text ≡ true → Passes p text
passing p [] h = tt
passing p (b ∷ text) h = let two = both (p b) (list_all p text) h in (two.0, passing p text two.1)

pub keyword : (word : List ℕ) → is_name word ≡ true → IsName word
keyword word e =
    let one = both (is_ascii_alphabetic (get_or word 0 0)) (list_all is_word word && (ltb 0 (length word) && leb (length word) 32)) e in
    let two = both (list_all is_word word) (ltb 0 (length word) && leb (length word) 32) one.1 in
    let three = both (ltb 0 (length word)) (leb (length word) 32) two.1 in
    record { letter = one.0; word = passing is_word word two.0; some = ltb-true _ _ three.0; short = leb-true _ _ three.1 }
