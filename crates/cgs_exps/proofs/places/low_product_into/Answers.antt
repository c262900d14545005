use Rattle.std.proofs.Common.{◌≡◌, ◌++◌, take, drop, arith}
use Rattle.std.proofs.lemmas.List.Sums.{sum_by-take-le}
use Rattle.cgs_exps.specs.declared.lanes.TheConstants.{LANES}
use Rattle.cgs_exps.specs.Monomial.{product}
use Rattle.cgs_exps.proofs.PlaceLemmas.{product_at, product_places}
use Rattle.cgs_exps.proofs.places.low_product_into.Goals as goal
use Rattle.cgs_exps.proofs.places.low_product_into.Goals.{then-places-ge-LANES, else-places-ge-LANES}

pub loop-i-init : goal.loop-i-init
loop-i-init c k h =
    elim c.if-places-ge-LANES.branch [
      | then-places-ge-LANES w ↦
          let written : c.if-places-ge-LANES.out ≡ product (take LANES c.args.a.now) (take LANES c.args.b.now) ++ drop LANES c.args.out.now = cc in
          product_at _ c.args.a.now c.args.b.now _ c.requires.same_places (omega arith) k (omega arith) written
      | else-places-ge-LANES w ↦ absurd (omega arith)
    ]

pub returns : goal.returns
returns c = product_places c.loop-i.out c.args.a.now c.args.b.now c.requires.same_places (omega arith) (λ k h. c.loop-i.invariant k (omega arith))

pub product_in_lanes-requires : goal.product_in_lanes-requires
product_in_lanes-requires c =
    rw (c.lanes.ensures, c.lanes-then-places-ge-LANES.ensures)
    (omega (arith, sum_by-take-le (λ n. n) c.args.a.now LANES, sum_by-take-le (λ n. n) c.args.b.now LANES))
