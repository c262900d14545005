use Rattle.std.proofs.Common.{ℕ, List, [], ◌++◌, codes, decimal, sym}
use Rattle.std.proofs.lemmas.List.{append-nil}
use Rattle.cgs_canonical.proofs.PrintLemmas.{leaves_all, leaves_equal, leaves_none, leaves_item, leaves_no_item, front_of_item, at_exit}
use Rattle.cgs_print.proofs.list.following_numbers.Goals as goal

abbrev dotted : ℕ → List ℕ
dotted number = codes "." ++ decimal number

pub loop-number-init : goal.loop-number-init
loop-number-init c = leaves_equal _ (leaves_all _ _) (sym (append-nil _))

pub returns-in_err-number_text : goal.returns-in_err-number_text
returns-in_err-number_text c =
    at_exit _ _ _ _ c.from_residual.ensures.0
    (front_of_item dotted c.args.numbers.now c.loop-number.number-index 0 [] c.loop-number-test.true c.loop-number.invariant c.in_err-number_text.ensures)

pub loop-number-preserved : goal.loop-number-preserved
loop-number-preserved c =
    leaves_item dotted c.args.numbers.now c.loop-number.number-index 0 [] c.loop-number-test.true c.loop-number.invariant c.in_ok-number_text.ensures

pub returns : goal.returns
returns c = leaves_none (leaves_no_item dotted c.args.numbers.now c.loop-number.number-index [] c.loop-number-test.false c.loop-number.invariant)
