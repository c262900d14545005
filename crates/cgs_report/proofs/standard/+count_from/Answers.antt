use Rattle.std.proofs.Common.{◌<◌, ◌∙◌, sym, arith}
use Rattle.cgs_poly.specs.Polynomial.{greatest_degree}
use Rattle.cgs_report.specs.declared.standard.TheConstants.{MAX_VARIABLES, MOST_COUNTED}
use Rattle.cgs_report.specs.Standard.{leads_x}
use Rattle.cgs_report.proofs.LeadLemmas.{leads_places, leads_low, side_low}
use Rattle.cgs_report.proofs.WalkLemmas.{power_step, answer_at_corner, answer_at_end, answer_at_least, answer_when_many}
use Rattle.cgs_report.proofs.WalkLemmas.{counted_more, zeros_after, last_standard}
use Rattle.cgs_report.proofs.standard.+count_from.Goals as goal

pub returns-then-has_divisor : goal.returns-then-has_divisor
returns-then-has_divisor t c =
    answer_at_corner c.args.ring.now.variables c.args.place MAX_VARIABLES (leads_x c.args.ring.now c.args.basis.now) c.args.m
    (leads_places c.args.ring.now c.args.basis.now c.requires.polys) (omega (arith, c.requires.within, c.if-place-variables.false))
    c.requires.ring.variables c.requires.zeros c.requires.powers MOST_COUNTED c.args.counted c.loop-e.e c.loop-e.count c.loop-e.invariant.counted
    c.loop-e.invariant.few (sym c.has_divisor.ensures ∙ c.if-has_divisor.true)

pub returns-then-count-gt-MOST_COUNTED : goal.returns-then-count-gt-MOST_COUNTED
returns-then-count-gt-MOST_COUNTED t c =
    answer_when_many c.args.ring.now.variables c.args.place MAX_VARIABLES (leads_x c.args.ring.now c.args.basis.now) c.args.m
    (leads_places c.args.ring.now c.args.basis.now c.requires.polys) (omega (arith, c.requires.within, c.if-place-variables.false))
    c.requires.ring.variables c.requires.zeros c.requires.powers MOST_COUNTED c.args.counted c.loop-e.e c.loop-e.count c.count_from-count.result
    c.loop-e.invariant.counted c.count_from-count.ensures c.if-count-gt-MOST_COUNTED.true (sym c.has_divisor.ensures ∙ c.if-has_divisor.false)

pub loop-e-preserved : goal.loop-e-preserved
loop-e-preserved t c = record {
  few = c.if-count-gt-MOST_COUNTED.false;
  counted = counted_more c.args.ring.now.variables c.args.place MAX_VARIABLES (leads_x c.args.ring.now c.args.basis.now) c.args.m
      (leads_places c.args.ring.now c.args.basis.now c.requires.polys) (omega (arith, c.requires.within, c.if-place-variables.false))
      c.requires.ring.variables c.requires.zeros c.requires.powers MOST_COUNTED c.args.counted c.loop-e.e c.loop-e.count c.count_from-count.result
      c.loop-e.invariant.counted c.count_from-count.ensures c.if-count-gt-MOST_COUNTED.false;
}

pub returns : goal.returns
returns t c =
    let l : c.args.place < c.args.ring.now.variables = omega (arith, c.requires.within, c.if-place-variables.false) in
    let s = side_low c.args.place greatest_degree (leads_x c.args.ring.now c.args.basis.now)
    (leads_low c.args.ring.now c.args.place c.args.basis.now l c.requires.polys) in
    answer_at_end c.args.ring.now.variables c.args.place MAX_VARIABLES (leads_x c.args.ring.now c.args.basis.now) c.args.m
    (leads_places c.args.ring.now c.args.basis.now c.requires.polys) l
    c.requires.ring.variables c.requires.zeros c.requires.powers MOST_COUNTED c.args.counted c.loop-e.e c.loop-e.count c.loop-e.invariant.counted
    c.loop-e.invariant.few (omega (arith, s, c.loop-e-test.false))

pub count_from-count-requires : goal.count_from-count-requires
count_from-count-requires t c =
    let l : c.args.place < c.args.ring.now.variables = omega (arith, c.requires.within, c.if-place-variables.false) in (
      omega (arith, l),
      (
        c.requires.ring,
        (
          c.requires.polys,
          (
            (power_step (leads_x c.args.ring.now c.args.basis.now) c.args.place c.args.ring.now.variables l c.requires.powers).1,
            (
              omega (arith, l),
              (
                zeros_after c.args.m c.args.place MAX_VARIABLES c.loop-e.e c.requires.zeros,
                (
                  last_standard (leads_x c.args.ring.now c.args.basis.now) c.args.m c.args.ring.now.variables c.args.place c.loop-e.e
                      (sym c.has_divisor.ensures ∙ c.if-has_divisor.false),
                  c.loop-e.invariant.few,
                ),
              ),
            ),
          ),
        ),
      ),
    )

pub returns-then-place-variables-2 : goal.returns-then-place-variables-2
returns-then-place-variables-2 t c =
    let l : c.args.place < c.args.ring.now.variables = omega (arith, c.requires.within, c.if-place-variables.false) in
    c.min.ensures
    ∙ answer_at_least c.args.ring.now.variables c.args.place MAX_VARIABLES (leads_x c.args.ring.now c.args.basis.now) c.args.m
    (leads_places c.args.ring.now c.args.basis.now c.requires.polys) l c.requires.ring.variables c.requires.zeros c.requires.powers MOST_COUNTED
    c.args.counted c.if-place-variables-2.true
    (side_low c.args.place greatest_degree (leads_x c.args.ring.now c.args.basis.now)
    (leads_low c.args.ring.now c.args.place c.args.basis.now l c.requires.polys))
    c.least_last-least.result c.least_last-least.ensures
