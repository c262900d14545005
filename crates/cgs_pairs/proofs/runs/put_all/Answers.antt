use Rattle.std.proofs.Common.{◌∙◌, ap}
use Rattle.cgs_pairs.specs.Unpassed.{unpassed}
use Rattle.cgs_pairs.proofs.RunLemmas.{enough_put, fresh_place}
use Rattle.cgs_pairs.proofs.runs.put_all.Goals as goal

pub put-requires-clause-fresh : goal.put-requires-clause-fresh
put-requires-clause-fresh c = fresh_place c.args.larger c.args.runs.now.entries c.requires.fresh

pub returns-clause-ok : goal.returns-clause-ok
returns-clause-ok c =
    ap (λ ps. unpassed c.args.order.now c.args.leads.now ps) c.in_ok-put.ensures.ok
    ∙ enough_put c.args.order.now c.args.leads.now c.requires.leads c.args.larger c.requires.within c.in_ok-run.run'.places.items c.in_ok-run.ensures.run
    c.in_ok-run.ensures.enough c.args.runs.now.entries c.requires.runs c.requires.fresh
