use Rattle.std.proofs.Common.{◌-◌, drop, take, length, arith, subst, ◌∙◌, List, ℕ}
use Rattle.std.proofs.lemmas.List.{length-drop, length-take, take_rest}
use Rattle.std.specs.Io.KnownBytes.{Appends}
use Rattle.cgs_io.proofs.MovingLemmas.{appends_more}
use Rattle.cgs_io.proofs.all.write_all.Goals as goal

pub loop-at-preserved : goal.loop-at-preserved
loop-at-preserved g c =
    let seen = g.K.Sink.seen in
    let text = c.args.text.now in
    let at = c.loop-at.at in
    let n = c.in_ok-at.field-0 in
    record {
      within = omega (arith, length-take (length text - at) (drop at text), length-drop at text, c.in_ok-at.ensures.count);
      bytes = appends_more (seen c.args.sink.now).bytes (seen c.loop-at.sink).bytes (seen c.write.new.self).bytes text at n c.loop-at.invariant.bytes
          (subst (λ (xs : List ℕ). Appends (seen c.loop-at.sink).bytes (seen c.write.new.self).bytes (take n xs)) (take_rest text at) c.in_ok-at.ensures.bytes);
      faults = c.in_ok-at.ensures.cause.ok ∙ c.loop-at.invariant.faults;
    }
