use Rattle.std.proofs.Common.{◌+◌, ◌∷◌, drop, sym, ap, ◌∙◌}
use Rattle.cgs_list.proofs.ListLemmas.{drop_at}
use Rattle.cgs_poly.specs.Polynomial.{term}
use Rattle.cgs_divide.proofs.rest.Rest.take_own.Goals as goal

pub returns-clause-first : goal.returns-clause-first
returns-clause-first c =
    drop_at c.args.f.now c.args.self.now.from (term c.term-first.result.coefficient c.term-first.result.exponents.now) c.term-first.ensures
    ∙ ap (λ m. term c.term-first.result.coefficient m ∷ drop (c.args.self.now.from + 1) c.args.f.now) (sym c.copy_from_slice.ensures.after)
