use Rattle.std.proofs.Common.{◌≡◌, ◌∙◌, [], drop, min, arith, ap, sym}
use Rattle.std.proofs.lemmas.List.{drop_all}
use Rattle.cgs_report.specs.Standard.{leads_x}
use Rattle.cgs_report.specs.Walk.{least_last}
use Rattle.cgs_report.proofs.LastLemmas.{least_low, least_at}
use Rattle.cgs_report.proofs.leads.least_last.Goals as goal

pub loop-f-init : goal.loop-f-init
loop-f-init c = let b = least_low c.args.m.now (leads_x c.args.ring.now c.args.basis.now) in record { low = omega arith; least = omega (arith, b) }

pub loop-f-preserved : goal.loop-f-preserved
loop-f-preserved c = record {
  low = let k = c.loop-f.invariant.low in omega (arith, k, c.min-least.ensures);
  least = rw (c.min-least.ensures, c.lead_last.ensures)
      (least_at c.args.ring.now c.args.m.now c.args.basis.now c.loop-f.f-index c.f-item.result c.loop-f.least c.loop-f-test.true c.f-item.is)
      ∙ c.loop-f.invariant.least;
}

pub returns : goal.returns
returns c =
    let none : drop c.loop-f.f-index c.args.basis.now ≡ [] = drop_all c.loop-f.f-index c.args.basis.now c.loop-f-test.false in
    let whole : min c.loop-f.least 32768 ≡ least_last c.args.m.now (leads_x c.args.ring.now c.args.basis.now) =
    ap (λ G. min c.loop-f.least (least_last c.args.m.now (leads_x c.args.ring.now G))) (sym none) ∙ c.loop-f.invariant.least in
    let k = c.loop-f.invariant.low in
    omega (arith, whole, k)
