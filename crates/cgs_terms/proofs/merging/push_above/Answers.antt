use Rattle.std.proofs.Common.{◌≡◌, ◌+◌, ◌-◌, length, sym, ◌∙◌, subst, arith, rules}
use Rattle.std.specs.declared.cmp.Ordering.TheVariants.{Less}
use Rattle.cgs_list.proofs.ListLemmas.{take_next_from}
use Rattle.cgs_order.specs.TermOrder.{compared}
use Rattle.cgs_order.proofs.OrderLemmas.{compared_not_self, compared_equal}
use Rattle.cgs_terms.specs.Polynomial.{Term, term}
use Rattle.cgs_terms.specs.Draft.{Appended}
use Rattle.cgs_terms.proofs.DraftLemmas.{less_room, appended_both}
use Rattle.cgs_terms.proofs.PlaceLemmas.{length_at, above_more, stops_at, first_found, first_other}
use Rattle.cgs_terms.proofs.merging.push_above.Goals as goal
use Rattle.cgs_terms.proofs.merging.push_above.Goals.{After-term-term}

-- the term at the place
abbrev here : After-term-term → Term
here c = term c.term-term.result.coefficient c.term-term.result.exponents.now

same_places : (c : After-term-term) → length (here c).exponents ≡ c.args.order.now.head + c.args.order.now.tail
same_places c = length_at c.args.sum.now.places c.loop-i.i c.args.f.now (here c) c.requires.lengths c.term-term.ensures ∙ c.requires.same

pub compare-requires-clause-first_places : goal.compare-requires-clause-first_places
compare-requires-clause-first_places c = same_places (goal.at.compare-requires-clause-first_places c).After-term-term

pub returns-in-Equal-clause-end : goal.returns-in-Equal-clause-end
returns-in-Equal-clause-end c =
    let order = c.args.order.now in
    let m = c.args.m.now in
    let n = c.term-term.result.exponents.now in
    let x = here (goal.at.returns-in-Equal-clause-end c).After-term-term in
    let same = same_places (goal.at.returns-in-Equal-clause-end c).After-term-term ∙ sym c.requires.places in
    let equal = compared_equal order n m same (sym c.compare.ensures ∙ c.in-Equal.is) in
    record {
      from = c.loop-i.auto.i;
      within = omega (arith, c.loop-i-test.true, c.len-i-end.ensures);
      few = search rules;
      above = c.loop-i.invariant.above;
      stops = stops_at order m c.loop-i.i c.args.f.now x c.term-term.ensures (λ e. cc (c.compare.ensures, c.in-Equal.is));
      found = first_found m c.loop-i.i c.term-term.result.coefficient c.args.f.now n c.term-term.ensures equal;
    }

pub returns-in-Less-clause-end : goal.returns-in-Less-clause-end
returns-in-Less-clause-end c =
    let order = c.args.order.now in
    let m = c.args.m.now in
    let n = c.term-term.result.exponents.now in
    let x = here (goal.at.returns-in-Less-clause-end c).After-term-term in
    record {
      from = c.loop-i.auto.i;
      within = omega (arith, c.loop-i-test.true, c.len-i-end.ensures);
      few = search rules;
      above = c.loop-i.invariant.above;
      stops = stops_at order m c.loop-i.i c.args.f.now x c.term-term.ensures (λ e. cc (c.compare.ensures, c.in-Less.is));
      found = first_other m c.loop-i.i c.term-term.result.coefficient c.args.f.now n c.term-term.ensures
          (λ e. compared_not_self order m (subst (λ n. compared order n m ≡ Less) e (sym c.compare.ensures ∙ c.in-Less.is)));
    }

pub push-requires-clause-room : goal.push-requires-clause-room
push-requires-clause-room c =
    c.loop-i.invariant.room 1
    (less_room c.args.sum.now (1 + (c.loop-i.i - c.args.from)) _ (omega (arith, c.loop-i-test.true, c.len-i-end.ensures, c.loop-i.auto.i)) c.requires.room)

pub returns-in-Equal-clause-room : goal.returns-in-Equal-clause-room
returns-in-Equal-clause-room c = c.loop-i.invariant.room

pub returns-in-Less-clause-room : goal.returns-in-Less-clause-room
returns-in-Less-clause-room c = c.loop-i.invariant.room

pub returns-clause-room : goal.returns-clause-room
returns-clause-room c n room =
    c.loop-i.invariant.room n (less_room c.args.sum.now (n + (c.loop-i.i - c.args.from)) _
    (omega (arith, c.loop-i.auto.i-end, c.len.ensures, c.len-i-end.ensures)) room)

pub loop-i-preserved : goal.loop-i-preserved
loop-i-preserved c =
    let x = here (goal.at.loop-i-preserved c).After-term-term in
    let from = c.args.from in
    let i = c.loop-i.i in
    let f = c.args.f.now in
    let greater = sym c.compare.ensures ∙ c.in-Greater.is in
    let more = appended_both c.loop-i.invariant.appended c.push.ensures.appended in
    record {
      room = λ n room. c.push.ensures.room n (c.loop-i.invariant.room (n + 1)
          (less_room c.args.sum.now ((n + 1) + (i - from)) _ (omega (arith, c.loop-i.auto.i)) room));
      appended = subst (λ g. Appended c.args.sum.now c.push.new.self g) (sym (take_next_from from i f x c.loop-i.auto.i c.term-term.ensures)) more;
      above = above_more c.args.order.now c.args.m.now from i f x c.loop-i.auto.i c.term-term.ensures greater c.loop-i.invariant.above;
    }
