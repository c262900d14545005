use Rattle.std.proofs.Common.{◌≡◌, ◌++◌, take, drop, arith}
use Rattle.cgs_exps.specs.declared.lanes.TheConstants.{LANES}
use Rattle.cgs_exps.specs.Monomial.{quotient}
use Rattle.cgs_exps.proofs.MonomialLemmas.{take_divides}
use Rattle.cgs_exps.proofs.PlaceLemmas.{quotient_at, quotient_places, divides_places}
use Rattle.cgs_exps.proofs.places.quotient_into.Goals as goal
use Rattle.cgs_exps.proofs.places.quotient_into.Goals.{then-a-ge-LANES, else-a-ge-LANES}

pub loop-i-init : goal.loop-i-init
loop-i-init c k h =
    elim c.if-a-ge-LANES.branch [
      | then-a-ge-LANES w ↦
          let written : c.if-a-ge-LANES.out ≡ quotient (take LANES c.args.a.now) (take LANES c.args.b.now) ++ drop LANES c.args.out.now = cc in
          quotient_at _ c.args.a.now c.args.b.now _ c.requires.same_places (omega arith) k (omega arith) written
      | else-a-ge-LANES w ↦ absurd (omega arith)
    ]

pub returns : goal.returns
returns c = quotient_places c.loop-i.out c.args.a.now c.args.b.now c.requires.same_places (omega arith) (λ k h. c.loop-i.invariant k (omega arith))

pub quotient_in_lanes-requires : goal.quotient_in_lanes-requires
quotient_in_lanes-requires c =
    rw (c.lanes.ensures, c.lanes-then-a-ge-LANES.ensures) (take_divides LANES c.args.b.now c.args.a.now c.requires.divisor)

pub overflow_sub-out : goal.overflow_sub-out
overflow_sub-out c = divides_places c.args.b.now c.args.a.now c.requires.divisor c.loop-i.i (omega arith)
