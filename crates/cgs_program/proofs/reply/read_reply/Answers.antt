use Rattle.std.proofs.Common.{List, ℕ, subst}
use Rattle.cgs_problem.specs.Reading.{problem_spelled}
use Rattle.cgs_program.specs.Due.{whole, too_long, IsReply}
use Rattle.cgs_program.specs.Run.{Makes}
use Rattle.cgs_program.proofs.Ending.{replied, makes_more}
use Rattle.cgs_program.proofs.reply.read_reply.Goals as goal

pub returns-in-Ok-Whole : goal.returns-in-Ok-Whole
returns-in-Ok-Whole g c =
    let seen = g.S.Source.seen in
    let bytes = c.in-Ok-Whole.bytes.items in
    let taken = rw c.in-Ok-Whole.field-0-is at c.in-Ok-Whole.ensures.bytes in
    let made =
    subst (λ (xs : List ℕ). Makes c.bytes_reply.result (IsReply c.args.plan (problem_spelled xs))) c.deref.ensures.value c.bytes_reply.ensures in
    replied c.args.plan (whole bytes) (seen c.args.source.now) (seen c.read_all.new.source) c.bytes_reply.result taken c.in-Ok-Whole.ensures.cause
    (makes_more c.bytes_reply.result (λ text end due. (c.requires.reads, due)) made)

pub returns-in-Ok-TooLong : goal.returns-in-Ok-TooLong
returns-in-Ok-TooLong g c =
    let seen = g.S.Source.seen in
    let taken = rw c.in-Ok-TooLong.field-0-is at c.in-Ok-TooLong.ensures.bytes in
    replied c.args.plan too_long (seen c.args.source.now) (seen c.read_all.new.source) c.fault_reply.result taken c.in-Ok-TooLong.ensures.cause
    (makes_more c.fault_reply.result (λ text end due. (c.requires.reads, due.0, due.1)) c.fault_reply.ensures)
