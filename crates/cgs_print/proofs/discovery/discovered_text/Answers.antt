use Rattle.std.proofs.Common.{codes}
use Rattle.cgs_print.specs.Discovery.{headed_text}
use Rattle.cgs_canonical.proofs.PrintLemmas.{front_first, last_part, at_exit}
use Rattle.cgs_print.proofs.discovery.discovered_text.Goals as goal

pub returns-in_err-headed_text : goal.returns-in_err-headed_text
returns-in_err-headed_text c =
    let first = headed_text (codes "refutation\n") c.args.refutation.now c.args.refuted.now in
    let second = headed_text (codes "with thesis\n") c.args.extension.now c.args.extended.now in
    at_exit _ _ _ _ c.from_residual.ensures.0 (front_first c.args.out.now c.headed_text.new.out first second c.in_err-headed_text.ensures)

pub returns : goal.returns
returns c =
    let first = headed_text (codes "refutation\n") c.args.refutation.now c.args.refuted.now in
    let second = headed_text (codes "with thesis\n") c.args.extension.now c.args.extended.now in
    last_part c.headed_text-2.result c.args.out.now c.headed_text.new.out c.headed_text-2.new.out first second
    c.in_ok-headed_text.ensures c.headed_text-2.ensures
