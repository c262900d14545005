use Rattle.std.proofs.Common.{IsTrue, rules}
use Rattle.std.specs.List.{AllByRecursion}
use Rattle.cgs_problem.specs.Terms.{IsTermOf}
use Rattle.cgs_list.proofs.ListLemmas.{passes}
use Rattle.cgs_problem.proofs.polynomial.has_terms_of.Goals as goal

pub loop-i-preserved : goal.loop-i-preserved
loop-i-preserved c =
    let holds : IsTrue c.is_term.result = search rules in
    passes (IsTermOf c.args.ring.now) (AllByRecursion (IsTermOf c.args.ring.now) c.args.f.now) c.args.f.now c.loop-i.i _ c.term-term.ensures
    (c.is_term.ensures.0 holds) c.loop-i.invariant
