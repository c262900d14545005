use Rattle.std.proofs.Common.{sym}
use Rattle.cgs_words.specs.Words.{plan_of}
use Rattle.cgs_program.proofs.Ending.{refused, delivered}
use Rattle.cgs_program.proofs.top.run_plan.Goals as goal

pub returns-in-Err : goal.returns-in-Err
returns-in-Err g c =
    let source = g.S.Source.seen c.args.source.now in
    let seen = g.K.Sink.seen in
    refused (plan_of c.args.words.now) c.in-Err.fault source (seen c.args.sink.now) (seen c.finish.new.sink) c.fault_line.result.now c.finish.result
    (sym c.in-Err.ensures.plan) c.fault_line.ensures c.finish.ensures

pub returns : goal.returns
returns g c =
    let source = g.S.Source.seen in
    let sink = g.K.Sink.seen in
    delivered (plan_of c.args.words.now) c.in-Ok.plan (source c.args.source.now) (source c.make_reply-reply.new.source) (sink c.args.sink.now)
    (sink c.deliver.new.sink)
    c.make_reply-reply.result c.deliver.result c.in-Ok.ensures.plan c.make_reply-reply.ensures c.deliver.ensures
