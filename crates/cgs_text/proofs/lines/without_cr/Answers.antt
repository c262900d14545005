use Rattle.cgs_text.proofs.LineLemmas.{drops_cr, keeps_other}
use Rattle.cgs_text.proofs.lines.without_cr.Goals as goal

pub returns-then-last-eq13-clause-bytes : goal.returns-then-last-eq13-clause-bytes
returns-then-last-eq13-clause-bytes c = drops_cr c.args.line.now c.in-Some.rest.now c.in-Some.last.now c.in-Some.ensures.cases.0 c.if-last-eq13.true

pub returns-else-last-eq13-clause-bytes : goal.returns-else-last-eq13-clause-bytes
returns-else-last-eq13-clause-bytes c = keeps_other c.args.line.now c.in-Some.rest.now c.in-Some.last.now c.in-Some.ensures.cases.0 c.if-last-eq13.false
