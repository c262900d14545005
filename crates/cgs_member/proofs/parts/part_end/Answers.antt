use Rattle.std.proofs.Common.{Bool, true, false, not, ◌≡◌, ◌+◌, drop, sym, ap, ◌∙◌, arith}
use Rattle.std.proofs.lemmas.List.{drop_all}
use Rattle.std.proofs.lemmas.Bool.Decides.{Decides-eqb}
use Rattle.std.proofs.lemmas.Slice.Eq.{slice_eq-Decides}
use Rattle.cgs_poly.specs.Polynomial.{Term, term}
use Rattle.cgs_poly.proofs.PlaceLemmas.{canonical_at}
use Rattle.cgs_member.proofs.PartLemmas.{part_length, part_length_more, part_length_ends, part_ends}
use Rattle.cgs_member.proofs.parts.part_end.Goals as goal

-- a test that says no

turned : (r b : Bool) → r ≡ not b → not r ≡ b
turned r true e = ap not e
turned r false e = ap not e

clash : (r : Bool) → not r ≡ true → r ≡ true → ⊥
clash true t e = absurd (cc)
clash false t e = absurd (cc)

pub split_at-requires : goal.split_at-requires
split_at-requires c =
    let x = canonical_at c.args.ring.now c.args.from c.args.f.now (term c.term.result.coefficient c.term.result.exponents.now)
    c.requires.poly.canonical c.term.ensures in
    omega (arith, x.places)

pub loop-to-init : goal.loop-to-init
loop-to-init c =
    let y : Term = term c.term.result.coefficient c.term.result.exponents.now in
    record {
      rising = omega arith;
      within = omega (arith, c.requires.place);
      part = omega (arith, part_length_more c.args.ring.now c.split_at.result.0.now c.args.f.now c.args.from y c.term.ensures (sym c.split_at.ensures.front));
    }

pub split_at-requires-in-loop-to : goal.split_at-requires-in-loop-to
split_at-requires-in-loop-to c =
    let x = canonical_at c.args.ring.now c.loop-to.to c.args.f.now (term c.term-in-loop-to.result.coefficient c.term-in-loop-to.result.exponents.now)
    c.requires.poly.canonical c.term-in-loop-to.ensures in
    omega (arith, x.places)

pub loop-to-preserved : goal.loop-to-preserved
loop-to-preserved c =
    let y : Term = term c.term-in-loop-to.result.coefficient c.term-in-loop-to.result.exponents.now in
    let same = slice_eq-Decides Decides-eqb c.split_at-in-loop-to.result.0.now c.split_at.result.0.now (not c.ne.result) (turned c.ne.result _ c.ne.ensures) in
    let more = part_length_more c.args.ring.now c.split_at.result.0.now c.args.f.now c.loop-to.to y c.term-in-loop-to.ensures
    (sym c.split_at-in-loop-to.ensures.front ∙ same.0 (ap not c.if-ne.false)) in
    record {
      rising = omega (arith, c.loop-to.invariant.rising);
      within = omega (arith, c.loop-to-test.true, c.len-count.ensures);
      part = c.loop-to.invariant.part ∙ omega (arith, more);
    }

-- the search ends here
ended : (c : goal.Then-ne) → c.args.from + part_length c.args.ring.now c.split_at.result.0.now (drop c.args.from c.args.f.now) ≡ c.loop-to.to
ended c =
    let y : Term = term c.term-in-loop-to.result.coefficient c.term-in-loop-to.result.exponents.now in
    let same = slice_eq-Decides Decides-eqb c.split_at-in-loop-to.result.0.now c.split_at.result.0.now (not c.ne.result) (turned c.ne.result _ c.ne.ensures) in
    let none = part_length_ends c.args.ring.now c.split_at.result.0.now c.args.f.now c.loop-to.to y c.term-in-loop-to.ensures
    (λ e. clash c.ne.result (same.1 (c.split_at-in-loop-to.ensures.front ∙ e)) c.if-ne.true) in
    c.loop-to.invariant.part ∙ omega (arith, none)

pub returns-then-ne-clause-part : goal.returns-then-ne-clause-part
returns-then-ne-clause-part c =
    (part_ends c.args.ring.now c.args.f.now c.args.from c.loop-to.to (term c.term.result.coefficient c.term.result.exponents.now) c.split_at.result.0.now
    c.requires.poly.canonical c.term.ensures c.split_at.ensures.front (ended c)).0

pub returns-then-ne-clause-others : goal.returns-then-ne-clause-others
returns-then-ne-clause-others c =
    (part_ends c.args.ring.now c.args.f.now c.args.from c.loop-to.to (term c.term.result.coefficient c.term.result.exponents.now) c.split_at.result.0.now
    c.requires.poly.canonical c.term.ensures c.split_at.ensures.front (ended c)).1

-- or at the end
all_same : (c : goal.After-loop-to) → c.args.from + part_length c.args.ring.now c.split_at.result.0.now (drop c.args.from c.args.f.now) ≡ c.len-count.result
all_same c =
    let none : part_length c.args.ring.now c.split_at.result.0.now (drop c.loop-to.to c.args.f.now) ≡ 0 =
    ap (part_length c.args.ring.now c.split_at.result.0.now) (drop_all c.loop-to.to c.args.f.now (omega (arith, c.loop-to-test.false, c.len-count.ensures))) in
    c.loop-to.invariant.part ∙ omega (arith, none, c.loop-to-test.false, c.loop-to.invariant.within, c.len-count.ensures)

pub returns-clause-part : goal.returns-clause-part
returns-clause-part c =
    (part_ends c.args.ring.now c.args.f.now c.args.from c.len-count.result (term c.term.result.coefficient c.term.result.exponents.now) c.split_at.result.0.now
    c.requires.poly.canonical c.term.ensures c.split_at.ensures.front (all_same c)).0

pub returns-clause-others : goal.returns-clause-others
returns-clause-others c =
    (part_ends c.args.ring.now c.args.f.now c.args.from c.len-count.result (term c.term.result.coefficient c.term.result.exponents.now) c.split_at.result.0.now
    c.requires.poly.canonical c.term.ensures c.split_at.ensures.front (all_same c)).1
