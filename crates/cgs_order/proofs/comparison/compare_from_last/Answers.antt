use Rattle.std.proofs.Common.{◌≡◌, ◌+◌, ◌<◌, length, sum, refl, sym, ap, ◌∙◌, arith, rules}
use Rattle.std.proofs.lemmas.List.{take_all}
use Rattle.std.specs.Ordering.{nat_cmp}
use Rattle.cgs_order.proofs.BlockLemmas.{sum_more, same_last, same_last_degree, other_last, grevlex_by_degree}
use Rattle.cgs_order.proofs.comparison.compare_from_last.Goals as goal
use Rattle.cgs_order.proofs.comparison.compare_from_last.Goals.{then-x-y, else-x-y}

-- a place that differs is the last one so far, and an equal one changes nothing
pub loop-i-preserved : goal.loop-i-preserved
loop-i-preserved c =
    let i = c.loop-i.i in
    let a = c.args.a.now in
    let b = c.args.b.now in
    let h : i < length a = c.loop-i-test.true in
    record {
      first = omega (arith, c.loop-i.invariant.first, sum_more i a h);
      second = omega (arith, c.loop-i.invariant.second, sum_more i b (omega arith));
      first_small = search rules;
      second_small = search rules;
      tie = λ e. elim c.if-x-y.branch [
        | then-x-y w ↦ rw (w.last-is, w.other_last-is) (other_last i (i + 1) a b c.requires.same_places refl h e w.if-x-y.true)
        | else-x-y w ↦ rw (w.last-is, w.other_last-is) (same_last i (i + 1) a b c.requires.same_places refl h e
            ∙ c.loop-i.invariant.tie (same_last_degree i (i + 1) a b c.requires.same_places refl h e w.if-x-y.false))
      ];
    }

pub returns-in_default : goal.returns-in_default
returns-in_default c =
    let a = c.args.a.now in
    let b = c.args.b.now in
    let s : c.loop-i.degree ≡ sum a = c.loop-i.invariant.first ∙ ap sum (take_all c.loop-i.i a (omega (arith, c.loop-i-test.false))) in
    let t : c.loop-i.other_degree ≡ sum b = c.loop-i.invariant.second ∙ ap sum (take_all c.loop-i.i b (omega (arith, c.loop-i-test.false))) in
    let k : c.cmp.result ≡ nat_cmp (sum a) (sum b) = rw (← s, ← t) c.cmp.ensures in
    k ∙ sym (grevlex_by_degree a b c.requires.same_places (λ e. c.in_default.not-Equal (k ∙ e)))
