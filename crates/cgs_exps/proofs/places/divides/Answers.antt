use Rattle.std.proofs.Common.{◌≡◌, true, false, ◌&&◌, take, drop, refl, sym, ap, ◌∙◌}
use Rattle.cgs_exps.specs.declared.lanes.TheConstants.{LANES}
use Rattle.cgs_exps.specs.Monomial.{divides}
use Rattle.cgs_exps.proofs.PlaceLemmas.{divides_parts}
use Rattle.cgs_exps.proofs.places.divides.Goals as goal
use Rattle.cgs_exps.proofs.places.divides.Goals.{then-a-ge-LANES+else-not-divides_in_lanes, else-a-ge-LANES}

pub returns-then-not-divides_in_lanes : goal.returns-then-not-divides_in_lanes
returns-then-not-divides_in_lanes c =
    let first : divides (take LANES c.args.a.now) (take LANES c.args.b.now) ≡ false = cc in
    sym (divides_parts c.args.a.now c.args.b.now c.requires.same_places ∙ ap (λ t. t && divides (drop LANES c.args.a.now) (drop LANES c.args.b.now)) first)

pub loop-i-init : goal.loop-i-init
loop-i-init c =
    elim c.if-a-ge-LANES.branch [
      | then-a-ge-LANES+else-not-divides_in_lanes w ↦
          let first : divides (take LANES c.args.a.now) (take LANES c.args.b.now) ≡ true = cc in
          rw w.from-is
          (divides_parts c.args.a.now c.args.b.now c.requires.same_places ∙ ap (λ t. t && divides (drop LANES c.args.a.now) (drop LANES c.args.b.now)) first)
      | else-a-ge-LANES w ↦ rw w.from-is refl
    ]
