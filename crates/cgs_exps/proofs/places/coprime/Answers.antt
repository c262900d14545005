use Rattle.std.proofs.Common.{◌≡◌, true, false, ◌&&◌, take, drop, refl, sym, ap, ◌∙◌}
use Rattle.cgs_exps.specs.declared.lanes.TheConstants.{LANES}
use Rattle.cgs_exps.specs.Monomial.{coprime}
use Rattle.cgs_exps.proofs.PlaceLemmas.{coprime_parts, coprime_more_left, coprime_more_right}
use Rattle.cgs_exps.proofs.places.coprime.Goals as goal
use Rattle.cgs_exps.proofs.places.coprime.Goals.{then-a-ge-LANES+else-not-coprime_in_lanes, else-a-ge-LANES}
use Rattle.cgs_exps.proofs.places.coprime.Goals.{else-a-i-ne0-via-then-a-i-ne0+else-b-i-ne0, else-a-i-ne0-via-else-a-i-ne0}

pub returns-then-not-coprime_in_lanes : goal.returns-then-not-coprime_in_lanes
returns-then-not-coprime_in_lanes c =
    let first : coprime (take LANES c.args.a.now) (take LANES c.args.b.now) ≡ false = cc in
    sym (coprime_parts c.args.a.now c.args.b.now c.requires.same_places ∙ ap (λ t. t && coprime (drop LANES c.args.a.now) (drop LANES c.args.b.now)) first)

pub loop-i-init : goal.loop-i-init
loop-i-init c =
    elim c.if-a-ge-LANES.branch [
      | then-a-ge-LANES+else-not-coprime_in_lanes w ↦
          let first : coprime (take LANES c.args.a.now) (take LANES c.args.b.now) ≡ true = cc in
          rw w.from-is
          (coprime_parts c.args.a.now c.args.b.now c.requires.same_places ∙ ap (λ t. t && coprime (drop LANES c.args.a.now) (drop LANES c.args.b.now)) first)
      | else-a-ge-LANES w ↦ rw w.from-is refl
    ]

-- a place at which one exponent is 0 leaves the answer to the places after it
pub loop-i-preserved : goal.loop-i-preserved
loop-i-preserved c =
    elim c.else-a-i-ne0.branch [
      | else-a-i-ne0-via-then-a-i-ne0+else-b-i-ne0 w ↦ c.loop-i.invariant
          ∙ coprime_more_right c.args.a.now c.args.b.now c.loop-i.i c.requires.same_places c.loop-i-test.true w.if-b-i-ne0.false
      | else-a-i-ne0-via-else-a-i-ne0 w ↦ c.loop-i.invariant
          ∙ coprime_more_left c.args.a.now c.args.b.now c.loop-i.i c.requires.same_places c.loop-i-test.true w.if-a-i-ne0.false
    ]
