use Rattle.std.proofs.Common.{sym, ◌∙◌}
use Rattle.std.proofs.lemmas.Bool.{ne_eqb}
use Rattle.cgs_report.proofs.OneLemmas.{one_by_parts}
use Rattle.cgs_report.proofs.entry.is_one_poly.Goals as goal

pub returns-then-number-eq1 : goal.returns-then-number-eq1
returns-then-number-eq1 c =
    let parts = one_by_parts c.args.ring.now c.args.f.now c.term-term.result.coefficient c.term-term.result.exponents.now c.requires.poly.canonical
    (sym c.len.ensures ∙ c.if-len-ne1.false) c.term-term.ensures in
    c.is_one.ensures ∙ rw (sym c.number.ensures ∙ c.if-number-eq1.true) at parts

pub returns-else-number-eq1 : goal.returns-else-number-eq1
returns-else-number-eq1 c =
    let parts = one_by_parts c.args.ring.now c.args.f.now c.term-term.result.coefficient c.term-term.result.exponents.now c.requires.poly.canonical
    (sym c.len.ensures ∙ c.if-len-ne1.false) c.term-term.ensures in
    let differs = ne_eqb c.number.result 1 c.if-number-eq1.false in
    differs ∙ rw (← c.number.ensures, differs) at parts
