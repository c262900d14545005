use Rattle.std.proofs.Common.{refl, ◌++◌, ◌+◌, ap, ◌∙◌, drop}
use Rattle.cgs_poly.specs.Grid.{strides}
use Rattle.cgs_poly.proofs.GridLemmas.{stride_next, strides_next}
use Rattle.cgs_poly.proofs.grid.strides.Goals as goal

pub loop-i-preserved : goal.loop-i-preserved
loop-i-preserved c =
    let stride = stride_next c.args.m.now c.loop-i.i _ c.loop-i.stride c.loop-i-test.true refl c.loop-i.invariant.stride in
    record {
      stride = stride;
      so_far = ap (λ n. n ++ strides (drop (c.loop-i.i + 1) c.args.m.now)) c.in_ok-push.ensures.items
          ∙ strides_next c.args.m.now c.loop-i.strides.items (strides c.args.m.now) c.loop-i.i _ c.loop-i-test.true stride c.loop-i.invariant.so_far;
    }
