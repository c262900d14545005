use Rattle.std.proofs.Common.{◌≡◌, ◌++◌, List, ℕ, [], get_or, ap, ◌∙◌, sym, subst}
use Rattle.std.proofs.lemmas.List.{append-nil}
use Rattle.cgs_canonical.specs.Printing.{AppendsFront}
use Rattle.cgs_print.specs.Printing.{entry_text}
use Rattle.cgs_canonical.proofs.PrintLemmas.{leaves_all, leaves_equal, leaves_item, leaves_no_item, leaves_none, front_of_item, at_exit}
use Rattle.cgs_print.proofs.list.entry_lines.Goals as goal

pub loop-entry-init : goal.loop-entry-init
loop-entry-init c = leaves_equal _ (leaves_all _ _) (sym (append-nil _))

pub returns-in_err-entry_text : goal.returns-in_err-entry_text
returns-in_err-entry_text c =
    let lines = entry_text c.args.ring.now c.args.names.now in
    let printed : lines c.entry-item.result ≡ lines (get_or c.args.entries.now c.loop-entry.entry-index c.entry-item.result) = ap lines c.entry-item.is in
    at_exit _ _ _ _ c.from_residual.ensures.0
    (front_of_item lines c.args.entries.now c.loop-entry.entry-index c.entry-item.result [] c.loop-entry-test.true c.loop-entry.invariant
    (subst (AppendsFront c.loop-entry.out c.entry_text.new.out) printed c.in_err-entry_text.ensures))

pub loop-entry-preserved : goal.loop-entry-preserved
loop-entry-preserved c =
    let lines = entry_text c.args.ring.now c.args.names.now in
    let printed : lines c.entry-item.result ≡ lines (get_or c.args.entries.now c.loop-entry.entry-index c.entry-item.result) = ap lines c.entry-item.is in
    leaves_item lines c.args.entries.now c.loop-entry.entry-index c.entry-item.result [] c.loop-entry-test.true c.loop-entry.invariant
    (c.in_ok-entry_text.ensures ∙ ap (λ (xs : List ℕ). c.loop-entry.out ++ xs) printed)

pub returns : goal.returns
returns c =
    let lines = entry_text c.args.ring.now c.args.names.now in
    leaves_none (leaves_no_item lines c.args.entries.now c.loop-entry.entry-index [] c.loop-entry-test.false c.loop-entry.invariant)
