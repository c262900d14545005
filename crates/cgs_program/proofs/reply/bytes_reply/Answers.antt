use Rattle.std.proofs.Common.{Ok, Err}
use Rattle.cgs_program.proofs.Ending.{makes_spelled}
use Rattle.cgs_program.proofs.Refutable.{spelled_refutable}
use Rattle.cgs_program.proofs.reply.bytes_reply.Goals as goal

pub problem_reply-requires-clause-refutable : goal.problem_reply-requires-clause-refutable
problem_reply-requires-clause-refutable g c = λ asked. spelled_refutable c.args.bytes.now c.in-Ok.problem c.in-Ok.ensures.spelled

pub returns-in-Ok : goal.returns-in-Ok
returns-in-Ok g c = makes_spelled c.args.plan c.args.bytes.now (Ok c.in-Ok.problem) c.problem_reply.result c.in-Ok.ensures.spelled c.problem_reply.ensures

pub returns-in-Err-Fault : goal.returns-in-Err-Fault
returns-in-Err-Fault g c =
    let spelled = rw c.in-Err-Fault.field-0-is at c.in-Err-Fault.ensures.spelled in
    let made = rw c.in-Err-Fault.field-0-is at c.text_fault_reply.ensures in
    makes_spelled c.args.plan c.args.bytes.now (Err c.in-Err-Fault.fault) c.text_fault_reply.result spelled made
