use Rattle.std.proofs.Common.{◌≡◌, ◌++◌, take, drop, arith}
use Rattle.cgs_exps.specs.declared.lanes.TheConstants.{LANES}
use Rattle.cgs_exps.specs.Monomial.{lcm}
use Rattle.cgs_exps.proofs.PlaceLemmas.{lcm_at, lcm_places}
use Rattle.cgs_exps.proofs.places.lcm_into.Goals as goal
use Rattle.cgs_exps.proofs.places.lcm_into.Goals.{then-a-ge-LANES, else-a-ge-LANES}

pub loop-i-init : goal.loop-i-init
loop-i-init c k h =
    elim c.if-a-ge-LANES.branch [
      | then-a-ge-LANES w ↦
          let written : c.if-a-ge-LANES.out ≡ lcm (take LANES c.args.a.now) (take LANES c.args.b.now) ++ drop LANES c.args.out.now = cc in
          lcm_at _ c.args.a.now c.args.b.now _ c.requires.same_places (omega arith) k (omega arith) written
      | else-a-ge-LANES w ↦ absurd (omega arith)
    ]

pub returns : goal.returns
returns c = lcm_places c.loop-i.out c.args.a.now c.args.b.now c.requires.same_places (omega arith) (λ k h. c.loop-i.invariant k (omega arith))
