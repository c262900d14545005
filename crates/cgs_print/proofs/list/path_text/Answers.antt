use Rattle.std.proofs.Common.{ℕ, ◌≡◌, ◌<◌, List, [], ◌∷◌, ◌++◌, length, get_or, drop, codes, decimal, refl, arith}
use Rattle.std.specs.List.{flat_map}
use Rattle.std.proofs.lemmas.Bool.Decides.{nat_tests}
use Rattle.std.proofs.lemmas.List.{take_rest}
use Rattle.cgs_print.specs.Printing.{path_text}
use Rattle.cgs_canonical.proofs.PrintLemmas.{front_first, last_part, at_exit}
use Rattle.cgs_print.proofs.list.path_text.Goals as goal

abbrev first_text : List ℕ → List ℕ
first_text numbers = decimal (get_or numbers 0 0)

abbrev rest_text : List ℕ → List ℕ
rest_text numbers = flat_map (λ number. codes "." ++ decimal number) (drop 1 numbers)

-- the first number and the rest
split : (numbers : List ℕ) → 0 < length numbers → first_text numbers ++ rest_text numbers ≡ path_text numbers
split [] h = absurd (omega arith)
split (number ∷ numbers) h = refl

pub returns-in_err-number_text : goal.returns-in_err-number_text
returns-in_err-number_text c =
    let numbers = c.as_slice-numbers.result.now in
    let some : 0 < length numbers = grind (arith, nat_tests) in
    let whole = front_first c.args.out.now c.number_text.new.out (first_text numbers) (rest_text numbers) c.in_err-number_text.ensures in
    at_exit c.from_residual.result c.args.out.now c.number_text.new.out (path_text c.args.path.now) c.from_residual.ensures.0
    (rw (← c.as_slice-numbers.ensures, ← split numbers some) whole)

pub returns : goal.returns
returns c =
    let numbers = c.as_slice-numbers.result.now in
    let some : 0 < length numbers = grind (arith, nat_tests) in
    let whole = last_part c.following_numbers.result c.args.out.now c.number_text.new.out c.following_numbers.new.out (first_text numbers) (rest_text numbers)
    c.in_ok-number_text.ensures (rw (take_rest numbers 1) at c.following_numbers.ensures) in
    rw (← c.as_slice-numbers.ensures, ← split numbers some) whole
