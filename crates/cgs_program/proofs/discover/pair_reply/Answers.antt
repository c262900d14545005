use Rattle.std.proofs.Common.{ap, ◌∙◌}
use Rattle.cgs_program.specs.Due.{limits_of, status_of}
use Rattle.cgs_program.proofs.Ending.{paired}
use Rattle.cgs_program.proofs.discover.pair_reply.Goals as goal

pub returns : goal.returns
returns g c =
    let marked = rw (c.as_slice.ensures, c.as_slice-2.ensures) at (c.status_of.ensures ∙ ap status_of c.has_refused_in_either-refused.ensures) in
    paired (limits_of c.args.plan) c.args.refutation.now c.args.extension.now c.in_ok-refuted.refuted.entries c.in_ok-extended.extended.entries
    c.new-text.result c.discovered_text.new.out c.status_of.result c.in_ok-refuted.ensures.list c.in_ok-extended.ensures.list c.new-text.ensures
    c.in_ok-discovered_text.ensures marked
