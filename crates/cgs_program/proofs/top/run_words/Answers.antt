use Rattle.cgs_program.proofs.Promising.{keeps_all}
use Rattle.cgs_program.proofs.top.run_words.Goals as goal

pub returns : goal.returns
returns g c =
    let source = g.S.Source.seen in
    let sink = g.K.Sink.seen in
    keeps_all c.args.words.now (source c.args.source.now) (source c.run_plan.new.source) (sink c.args.sink.now)
    (sink c.run_plan.new.sink) c.run_plan.result c.run_plan.ensures
