use Rattle.std.proofs.Common.{◌≡◌, Some}
use Rattle.cgs_problem.specs.Problems.{IsProblem}
use Rattle.cgs_program.specs.Due.{own_problem}
use Rattle.cgs_program.proofs.Ending.{replied_unread, own_is_no_discovery}
use Rattle.cgs_program.proofs.reply.make_reply.Goals as goal

pub problem_reply-requires-clause-refutable : goal.problem_reply-requires-clause-refutable
problem_reply-requires-clause-refutable g c =
    let own : own_problem c.args.plan ≡ Some c.in-Some.problem = (let a = c.in_ok-problem.ensures.own in let b = c.in-Some.is in cc) in
    λ asked. absurd (own_is_no_discovery c.args.plan c.in-Some.problem own asked)

pub returns-in-Some : goal.returns-in-Some
returns-in-Some g c =
    let own : own_problem c.args.plan ≡ Some c.in-Some.problem = (let a = c.in_ok-problem.ensures.own in let b = c.in-Some.is in cc) in
    let valid : IsProblem c.in-Some.problem = rw c.in-Some.is at c.in_ok-problem.ensures.valid in
    replied_unread c.args.plan c.in-Some.problem (g.S.Source.seen c.args.source.now) c.problem_reply.result own valid c.problem_reply.ensures
