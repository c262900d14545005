use Rattle.std.proofs.Common.{◌++◌, [], ◌∷◌, ap, ◌∙◌}
use Rattle.cgs_poly.specs.Polynomial.{term}
use Rattle.cgs_poly.proofs.GridLemmas.{numbers_next}
use Rattle.cgs_poly.proofs.grid.numbers_of.Goals as goal

pub loop-i-preserved : goal.loop-i-preserved
loop-i-preserved c =
    c.in_ok-push.ensures.items ∙ (ap (λ ns. ns ++ c.number_of.result ∷ []) c.loop-i.invariant
    ∙ numbers_next c.args.strides.now c.args.f.now c.loop-i.i c.number_of.result (term c.term.result.coefficient c.term.result.exponents.now)
    c.term.ensures c.number_of.ensures)
