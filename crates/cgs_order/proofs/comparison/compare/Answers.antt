use Rattle.std.proofs.Common.{◌∙◌, sym}
use Rattle.cgs_order.proofs.BlockLemmas.{compared_whole}
use Rattle.cgs_order.proofs.comparison.compare.Goals as goal

pub returns-in-Lex : goal.returns-in-Lex
returns-in-Lex c = c.compare_places.ensures ∙ sym (compared_whole c.args.order.now c.args.a.now c.args.b.now c.in-Lex.is)
