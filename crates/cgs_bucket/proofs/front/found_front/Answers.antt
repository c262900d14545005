use Rattle.std.proofs.Common.{◌≡◌, ◌<◌, [], length, get_or, ap, sym, ◌∙◌, subst, arith}
use Rattle.std.specs.declared.cmp.Ordering.TheVariants.{Less, Equal, Greater}
use Rattle.cgs_order.proofs.OrderLemmas.{compared_equal}
use Rattle.cgs_order.specs.TermOrder.{compared}
use Rattle.cgs_terms.specs.Polynomial.{places, order_of}
use Rattle.cgs_terms.specs.Product.{leading_monomial}
use Rattle.cgs_bucket.proofs.LevelLemmas.{lead_places}
use Rattle.cgs_bucket.proofs.FrontLemmas.{IsBest, best_less, best_greater, SoFar, so_far_empty, first_best, some_level, no_level}
use Rattle.cgs_bucket.proofs.front.found_front.Goals as goal
use Rattle.cgs_bucket.proofs.front.found_front.Goals.{In-Some}

some : (c : In-Some) → 0 < length (get_or c.args.levels.now c.loop-k.k [])
some c = some_level c.args.levels.now c.loop-k.k c.len.result c.index-levels-k.result c.loop-k-test.true c.index-levels-k.is c.len.ensures c.if-len-eq0.false

best : (c : In-Some) → IsBest c.args.ring.now c.args.levels.now c.loop-k.k c.in-Some.b
best c = subst (λ o. SoFar c.args.ring.now c.args.levels.now c.loop-k.k o) c.in-Some.is c.loop-k.invariant

pub loop-k-preserved-then-len-eq0 : goal.loop-k-preserved-then-len-eq0
loop-k-preserved-then-len-eq0 c =
    so_far_empty c.args.ring.now c.args.levels.now c.loop-k.k c.loop-k.best c.loop-k.invariant
    (no_level c.args.levels.now c.loop-k.k c.len.result c.index-levels-k.result c.loop-k-test.true c.index-levels-k.is c.len.ensures c.if-len-eq0.true)

pub loop-k-preserved-in_default : goal.loop-k-preserved-in_default
loop-k-preserved-in_default c =
    first_best c.args.ring.now c.args.levels.now c.loop-k.k c.loop-k.best c.loop-k.invariant c.in_default.not-Some
    (some_level c.args.levels.now c.loop-k.k c.len.result c.index-levels-k.result c.loop-k-test.true c.index-levels-k.is c.len.ensures c.if-len-eq0.false)

-- the places of both monomials
k_places : (c : In-Some) → length (leading_monomial (get_or c.args.levels.now c.loop-k.k [])) ≡ places c.args.ring.now
k_places c = lead_places c.args.ring.now c.args.levels.now c.loop-k.k c.requires.polys (some c)

b_places : (c : In-Some) → length (leading_monomial (get_or c.args.levels.now c.in-Some.b [])) ≡ places c.args.ring.now
b_places c = lead_places c.args.ring.now c.args.levels.now c.in-Some.b c.requires.polys (best c).some

pub lead_at-requires-clause-some : goal.lead_at-requires-clause-some
lead_at-requires-clause-some c = some (goal.at.lead_at-requires-clause-some c).In-Some

pub lead_at-requires-in-loop-k-clause-within : goal.lead_at-requires-in-loop-k-clause-within
lead_at-requires-in-loop-k-clause-within c = omega (arith, (best (goal.at.lead_at-requires-in-loop-k-clause-within c).In-Some).within, c.loop-k-test.true)

pub lead_at-requires-in-loop-k-clause-some : goal.lead_at-requires-in-loop-k-clause-some
lead_at-requires-in-loop-k-clause-some c = (best (goal.at.lead_at-requires-in-loop-k-clause-some c).In-Some).some

pub compare-requires-clause-first_places : goal.compare-requires-clause-first_places
compare-requires-clause-first_places c =
    rw c.order-order.ensures (ap length c.lead_at.ensures ∙ k_places (goal.at.compare-requires-clause-first_places c).In-Some)

pub compare-requires-clause-second_places : goal.compare-requires-clause-second_places
compare-requires-clause-second_places c =
    rw c.order-order.ensures (ap length c.lead_at-in-loop-k.ensures ∙ b_places (goal.at.compare-requires-clause-second_places c).In-Some)

pub loop-k-preserved-in-Less : goal.loop-k-preserved-in-Less
loop-k-preserved-in-Less c =
    let s = (goal.at.loop-k-preserved-in-Less c).In-Some in
    let e : compared (order_of c.args.ring.now) (leading_monomial (get_or c.args.levels.now c.loop-k.k []))
    (leading_monomial (get_or c.args.levels.now c.in-Some.b []))
    ≡ Less = rw (← c.lead_at.ensures, ← c.lead_at-in-loop-k.ensures, ← c.order-order.ensures) (sym c.compare.ensures ∙ c.in-Less.is) in
    best_less c.args.ring.now c.args.levels.now c.loop-k.k c.in-Some.b (best s) e

pub returns-in-Equal : goal.returns-in-Equal
returns-in-Equal c =
    let s = (goal.at.returns-in-Equal c).In-Some in
    let e : compared (order_of c.args.ring.now) (leading_monomial (get_or c.args.levels.now c.loop-k.k []))
    (leading_monomial (get_or c.args.levels.now c.in-Some.b []))
    ≡ Equal = rw (← c.lead_at.ensures, ← c.lead_at-in-loop-k.ensures, ← c.order-order.ensures) (sym c.compare.ensures ∙ c.in-Equal.is) in
    record {
      rising = (best s).within;
      within = c.loop-k-test.true;
      first = (best s).some;
      second = some s;
      same = sym (compared_equal (order_of c.args.ring.now) _ _ (k_places s ∙ sym (b_places s)) e);
    }

pub loop-k-preserved : goal.loop-k-preserved
loop-k-preserved c =
    let s = (goal.at.loop-k-preserved c).In-Some in
    let e : compared (order_of c.args.ring.now) (leading_monomial (get_or c.args.levels.now c.loop-k.k []))
    (leading_monomial (get_or c.args.levels.now c.in-Some.b []))
    ≡ Greater = rw (← c.lead_at.ensures, ← c.lead_at-in-loop-k.ensures, ← c.order-order.ensures) (sym c.compare.ensures ∙ c.in-Greater.is) in
    best_greater c.args.ring.now c.args.levels.now c.loop-k.k c.in-Some.b (best s) e (some s)

pub returns-in-Some-best : goal.returns-in-Some-best
returns-in-Some-best c =
    let b : IsBest c.args.ring.now c.args.levels.now c.loop-k.k c.in-Some-best.k =
    subst (λ o. SoFar c.args.ring.now c.args.levels.now c.loop-k.k o) c.in-Some-best.is c.loop-k.invariant in
    record {
      within = omega (arith, b.within, c.loop-k.auto.k-end);
      some = b.some;
      others = λ i l n. b.others i (omega (arith, l, c.loop-k-test.false)) n;
    }

pub returns-in-None : goal.returns-in-None
returns-in-None c = λ i l. (subst (λ o. SoFar c.args.ring.now c.args.levels.now c.loop-k.k o) c.in-None.is c.loop-k.invariant) i
    (omega (arith, l, c.loop-k-test.false))
