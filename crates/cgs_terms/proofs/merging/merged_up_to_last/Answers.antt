use Rattle.std.proofs.Common.{ℕ, ◌≡◌, ◌≤◌, ◌+◌, ◌-◌, Option, None, Some, ap, ◌++◌, length, drop, refl, ◌∙◌, arith}
use Rattle.std.specs.Option.{is_some}
use mir.Val.{bool_byte}
use Rattle.cgs_terms.specs.Polynomial.{Term, term, canonical}
use Rattle.cgs_terms.specs.Draft.{terms_in}
use Rattle.cgs_terms.specs.Merge.{changed, count_met}
use Rattle.cgs_terms.proofs.RingLemmas.{modulus_positive}
use Rattle.cgs_terms.proofs.PlaceLemmas.{IsTermOf, each_at, canonical_at, canonical_length, canonical_drop, changed_at, changed_length, met_below}
use Rattle.cgs_terms.proofs.DraftLemmas.{less_room}
use Rattle.cgs_terms.proofs.MergeLemmas.{merge_next, merge_end}
use Rattle.cgs_terms.proofs.merging.merged_up_to_last.Goals as goal
use Rattle.cgs_terms.proofs.merging.merged_up_to_last.Given.{Over}
use Rattle.cgs_terms.proofs.merging.merged_up_to_last.Goals.{After-term-term, After-times_monomial-m}

-- the term of the second list, and what it becomes
abbrev here : (g : Over) → After-term-term g → Term
here g c = term c.term-term.result.coefficient c.term-term.result.exponents.now

abbrev there : (g : Over) → After-times_monomial-m g → Term
there g c = term c.times_coefficient-c.result c.times_monomial-m.result.now

of_ring : (g : Over) (c : After-times_monomial-m g) → IsTermOf c.args.ring.now (there g c)
of_ring g c =
    let ring = c.args.ring.now in
    let times = g.M.Multiple.coefficient c.args.by.now ring.modulus in
    let moved = g.M.Multiple.monomial c.args.by.now in
    let x = term c.term-term.result.coefficient c.term-term.result.exponents.now in
    let y = there g c in
    let at = changed_at times moved c.args.g.now c.loop-j.j x y.coefficient y.exponents
    c.term-term.ensures c.times_coefficient-c.ensures c.times_monomial-m.ensures in
    canonical_at ring c.loop-j.j (changed times moved c.args.g.now) y c.requires.can.second at

pub prepare-requires : goal.prepare-requires
prepare-requires g c =
    let x = here g (goal.at.prepare-requires g c).After-term-term in record {
      can = each_at (g.M.Multiple.can_multiply c.args.by.now c.args.ring.now.modulus) c.loop-j.j c.args.g.now x c.requires.can.each c.term-term.ensures;
    }

pub times_coefficient-c-requires-clause-below : goal.times_coefficient-c-requires-clause-below
times_coefficient-c-requires-clause-below g c =
    let x = here g (goal.at.times_coefficient-c-requires-clause-below g c).After-term-term in
    (canonical_at c.args.ring.now c.loop-j.j c.args.g.now x c.requires.can.terms c.term-term.ensures).below

pub times_coefficient-c-requires-clause-can : goal.times_coefficient-c-requires-clause-can
times_coefficient-c-requires-clause-can g c =
    let x = here g (goal.at.times_coefficient-c-requires-clause-can g c).After-term-term in
    each_at (g.M.Multiple.can_multiply c.args.by.now c.args.ring.now.modulus) c.loop-j.j c.args.g.now x c.requires.can.each c.term-term.ensures

pub push_above-end-requires-clause-lengths : goal.push_above-end-requires-clause-lengths
push_above-end-requires-clause-lengths g c = rw c.loop-j.invariant.places (canonical_length c.args.ring.now c.args.f.now c.requires.can.first)

pub push_above-end-requires-clause-places : goal.push_above-end-requires-clause-places
push_above-end-requires-clause-places g c =
    let of = of_ring g (goal.at.push_above-end-requires-clause-places g c).After-times_monomial-m in
    rw c.requires.order of.places

pub push_above-end-requires-clause-same : goal.push_above-end-requires-clause-same
push_above-end-requires-clause-same g c = rw c.requires.order c.loop-j.invariant.places

pub push_above-end-requires-clause-room : goal.push_above-end-requires-clause-room
push_above-end-requires-clause-room g c = less_room _ _ _ (omega arith) c.loop-j.invariant.room

pub push_joined-requires-clause-room : goal.push_joined-requires-clause-room
push_joined-requires-clause-room g c =
    c.push_above-end.ensures.room 1 (less_room _ _ _ (omega (
      arith,
      c.push_above-end.ensures.end.from,
      c.push_above-end.ensures.end.within,
      c.loop-j-test.true,
      c.len-j-end.ensures,
    )) c.loop-j.invariant.room)

pub push_joined-requires-clause-places : goal.push_joined-requires-clause-places
push_joined-requires-clause-places g c =
    let of = of_ring g (goal.at.push_joined-requires-clause-places g c).After-times_monomial-m in
    rw (c.push_above-end.ensures.appended.places, c.loop-j.invariant.places) of.places

pub push_joined-requires-clause-below : goal.push_joined-requires-clause-below
push_joined-requires-clause-below g c = (of_ring g (goal.at.push_joined-requires-clause-below g c).After-times_monomial-m).below

pub push_joined-requires-clause-met : goal.push_joined-requires-clause-met
push_joined-requires-clause-met g c =
    let behind = drop c.push_above-end.result.0 c.args.f.now in
    let canonical_behind = canonical_drop c.args.ring.now c.push_above-end.result.0 c.args.f.now c.requires.can.first in
    rw c.push_above-end.ensures.end.found (met_below c.args.ring.now c.times_monomial-m.result.now behind canonical_behind)

-- one place more where a term was met
step : (o : Option ℕ) → bool_byte (is_some o) ≡ count_met o
step None = refl
step (Some d) = refl

pub overflow_add-i : goal.overflow_add-i
overflow_add-i g c =
    let one : c.from.result ≡ count_met c.push_above-end.result.1 = c.from.ensures ∙ (ap bool_byte c.is_some.ensures ∙ step c.push_above-end.result.1) in
    omega (arith, one, c.push_above-end.ensures.end.within, c.push_above-end.ensures.end.few)

pub loop-j-preserved : goal.loop-j-preserved
loop-j-preserved g c =
    let ring = c.args.ring.now in
    let f = c.args.f.now in
    let times = g.M.Multiple.coefficient c.args.by.now ring.modulus in
    let moved = g.M.Multiple.monomial c.args.by.now in
    let h = changed times moved c.args.g.now in
    let x = here g (goal.at.loop-j-preserved g c).After-term-term in
    let y = there g (goal.at.loop-j-preserved g c).After-times_monomial-m in
    let at = changed_at times moved c.args.g.now c.loop-j.j x y.coefficient y.exponents
    c.term-term.ensures c.times_coefficient-c.ensures c.times_monomial-m.ensures in
    let end = c.push_above-end.result.0 in
    let met = c.push_above-end.result.1 in
    let run = c.push_above-end.ensures.end in
    let one : c.from.result ≡ count_met met = c.from.ensures ∙ (ap bool_byte c.is_some.ensures ∙ step met) in
    let next =
    merge_next ring (modulus_positive ring.modulus c.requires.can.modulus) f h c.loop-j.i end c.loop-j.j y c.requires.can.first c.requires.can.second
    run.from at (rw (← c.requires.order) run.above) (rw (← c.requires.order) run.stops) met run.found
    (terms_in c.loop-j.sum) (terms_in c.push_above-end.new.sum) (terms_in c.push_joined.new.self) (canonical ring (f ++ h))
    c.push_above-end.ensures.appended.terms c.push_joined.ensures.appended.terms c.loop-j.invariant.sum in
    let left : ℕ = (length f - end) + (length c.args.g.now - (c.loop-j.j + 1)) in
    let room = c.push_joined.ensures.room left (c.push_above-end.ensures.room (left + 1)
    (less_room _ _ _ (omega (arith, run.from, run.within, c.loop-j-test.true, c.len-j-end.ensures)) c.loop-j.invariant.room)) in
    record {
      room = less_room _ _ left (omega (arith, one)) room;
      flat = c.push_joined.ensures.appended.flat;
      places = c.push_joined.ensures.appended.places ∙ (c.push_above-end.ensures.appended.places ∙ c.loop-j.invariant.places);
      within = omega (arith, one, run.within);
      sum = rw one next;
    }

pub returns-clause-sum : goal.returns-clause-sum
returns-clause-sum g c =
    let ring = c.args.ring.now in
    let f = c.args.f.now in
    let times = g.M.Multiple.coefficient c.args.by.now ring.modulus in
    let moved = g.M.Multiple.monomial c.args.by.now in
    let h = changed times moved c.args.g.now in
    let last : length h ≤ c.loop-j.j = omega (arith, changed_length times moved c.args.g.now, c.loop-j-test.false, c.len-j-end.ensures) in
    merge_end ring (modulus_positive ring.modulus c.requires.can.modulus) f h c.loop-j.i c.loop-j.j c.requires.can.first last
    (terms_in c.loop-j.sum) (canonical ring (f ++ h)) c.loop-j.invariant.sum
