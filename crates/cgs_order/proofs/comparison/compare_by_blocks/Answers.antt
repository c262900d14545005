use Rattle.std.proofs.Common.{◌∙◌, sym}
use Rattle.cgs_order.proofs.BlockLemmas.{compared_by_parameters, compared_by_variables}
use Rattle.cgs_order.proofs.comparison.compare_by_blocks.Goals as goal

pub returns-in-Equal : goal.returns-in-Equal
returns-in-Equal c =
    c.compare_blocks-in-Equal.ensures
    ∙ sym (compared_by_parameters c.args.order.now c.args.a.now c.args.b.now c.requires.first_places
    c.requires.second_places (sym c.compare_blocks.ensures ∙ c.in-Equal.is))

pub returns-in_default : goal.returns-in_default
returns-in_default c =
    c.compare_blocks.ensures
    ∙ sym (compared_by_variables c.args.order.now c.args.a.now c.args.b.now c.requires.first_places
    c.requires.second_places (λ e. c.in_default.not-Equal (c.compare_blocks.ensures ∙ e)))
