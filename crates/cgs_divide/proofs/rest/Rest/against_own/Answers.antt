use Rattle.std.proofs.Common.{sym, ◌∙◌}
use Rattle.cgs_poly.specs.Polynomial.{term}
use Rattle.cgs_poly.proofs.PlaceLemmas.{canonical_at}
use Rattle.cgs_divide.proofs.RestLemmas.{against_at}
use Rattle.cgs_divide.proofs.rest.Rest.against_own.Goals as goal

pub compare-requires-clause-second_places : goal.compare-requires-clause-second_places
compare-requires-clause-second_places c =
    rw c.order.ensures (canonical_at c.args.ring.now c.args.self.now.from c.args.f.now (term c.term.result.coefficient c.term.result.exponents.now)
    c.requires.poly.canonical c.term.ensures).places

pub returns-clause-order : goal.returns-clause-order
returns-clause-order c =
    c.compare.ensures
    ∙ rw c.order.ensures (sym (against_at c.args.ring.now c.args.m.now c.args.f.now c.args.self.now.from
    (term c.term.result.coefficient c.term.result.exponents.now) c.term.ensures))
