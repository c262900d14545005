use Rattle.std.proofs.Common.{◌≡◌, ◌-◌, ◌≤◌, ◌<◌, ◌^◌, length, drop, suc, sym, ap, ◌∙◌, subst, arith}
use Rattle.std.proofs.lemmas.List.{length-take}
use Rattle.std.specs.List.{AllByRecursion}
use Rattle.cgs_list.proofs.ListLemmas.{all_push}
use Rattle.cgs_exps.specs.Monomial.{degree}
use Rattle.cgs_poly.specs.Polynomial.{IsTerm, term, places, greatest_degree}
use Rattle.cgs_poly.specs.Grid.{strides, terms_at, divisor_at, count_divisors}
use Rattle.cgs_poly.proofs.RingLemmas.{ring_positive, places_few}
use Rattle.cgs_poly.proofs.SumLemmas.{Alike}
use Rattle.cgs_poly.proofs.CanonicalLemmas.{canonical_same}
use Rattle.cgs_poly.proofs.TermLemmas.{terms_of_ring, terms_have_length}
use Rattle.cgs_poly.proofs.GridLemmas.{strides_length, strides_positive, divisor_small, divisor_low, divisor_length, have_length}
use Rattle.cgs_poly.proofs.CellLemmas.{cell_left_out, cell_put, cells_of_ring}
use Rattle.cgs_poly.proofs.cells.sum_of_cells.Goals as goal
use Rattle.cgs_poly.proofs.cells.sum_of_cells.Goals.{Start, After-write_divisor}

-- as many strides as places
many : (c : Start) → length c.args.strides.now ≡ places c.args.ring.now
many c = ap length c.requires.numbered.strides ∙ (strides_length c.requires.numbered.corner ∙ c.requires.numbered.places)

pub slice_bounds-room-end : goal.slice_bounds-room-end
slice_bounds-room-end c =
    omega (arith, many (goal.at.slice_bounds-room-end c).Start, places_few c.args.ring.now c.requires.ring, c.type_inv.room)

pub slice_bounds-m-end : goal.slice_bounds-m-end
slice_bounds-m-end c =
    omega (
      arith,
      many (goal.at.slice_bounds-m-end c).Start,
      places_few c.args.ring.now c.requires.ring,
      c.if-number-ne0.array_long,
      length-take (length c.args.strides.now) c.loop-i.room,
    )

pub write_divisor-requires-clause-places : goal.write_divisor-requires-clause-places
write_divisor-requires-clause-places c =
    omega (
      arith,
      many (goal.at.write_divisor-requires-clause-places c).Start,
      places_few c.args.ring.now c.requires.ring,
      c.if-number-ne0.array_long,
      length-take (length c.args.strides.now) c.loop-i.room,
    )

pub write_divisor-requires-clause-positive : goal.write_divisor-requires-clause-positive
write_divisor-requires-clause-positive c =
    subst (AllByRecursion (λ s. 0 < s)) (sym c.requires.numbered.strides)
    (strides_positive c.requires.numbered.corner)

pub write_divisor-requires-clause-fits : goal.write_divisor-requires-clause-fits
write_divisor-requires-clause-fits c =
    let l : c.loop-i.i - 1 < count_divisors c.requires.numbered.corner = omega (arith, c.requires.numbered.count) in
    subst (λ ss. AllByRecursion (λ x. x < 2 ^ 16) (divisor_at ss (c.loop-i.i - 1)))
    (sym c.requires.numbered.strides)
    (divisor_small c.requires.numbered.corner c.requires.numbered.low (c.loop-i.i - 1) l)

-- the monomial that is written
module _ (c : After-write_divisor) where
  written : c.write_divisor.new.out ≡ divisor_at (strides c.requires.numbered.corner) (c.loop-i.i - 1)
  written = c.write_divisor.ensures ∙ ap (λ ss. divisor_at ss (c.loop-i.i - 1)) c.requires.numbered.strides

  written_places : length c.write_divisor.new.out ≡ places c.args.ring.now
  written_places =
      ap length written ∙ (divisor_length (strides c.requires.numbered.corner) (c.loop-i.i - 1)
      ∙ (strides_length c.requires.numbered.corner ∙ c.requires.numbered.places))

  written_low : degree c.write_divisor.new.out ≤ greatest_degree
  written_low =
      let l : c.loop-i.i - 1 < count_divisors c.requires.numbered.corner = omega (arith, c.requires.numbered.count) in
      subst (λ m. degree m ≤ greatest_degree) (sym written) (divisor_low c.requires.numbered.corner c.requires.numbered.low (c.loop-i.i - 1) l)

pub push-requires : goal.push-requires
push-requires c = record {
  places = have_length (places c.args.ring.now) (length c.write_divisor.new.out) c.loop-i.terms
      (sym (written_places (goal.at.push-requires c).After-write_divisor)) (terms_have_length c.args.ring.now c.loop-i.terms c.loop-i.invariant.terms);
}

pub loop-i-preserved-in-Continue-1 : goal.loop-i-preserved-in-Continue-1
loop-i-preserved-in-Continue-1 c =
    let w = (goal.at.loop-i-preserved-in-Continue-1 c).After-write_divisor in
    let ss = c.args.strides.now in
    let next : suc (c.loop-i.i - 1) ≡ c.loop-i.i = omega arith in
    let l : c.loop-i.i - 1 < length c.args.cells.now = omega arith in
    let m : c.write_divisor.new.out ≡ divisor_at c.args.strides.now (c.loop-i.i - 1) =
    written w ∙ ap (λ ss. divisor_at ss (c.loop-i.i - 1)) (sym c.requires.numbered.strides) in
    record {
      terms = subst (AllByRecursion (IsTerm c.args.ring.now)) (sym c.in_ok-push.ensures.ok)
          (all_push (IsTerm c.args.ring.now) c.loop-i.terms (term c.of_u64-c.result c.write_divisor.new.out) c.loop-i.invariant.terms
          (record { below = c.of_u64-c.ensures.below; places = written_places w; low = written_low w }));
      sum = subst (λ f. Alike c.args.ring.now.modulus f (terms_at ss (c.loop-i.i - 1) (drop (c.loop-i.i - 1) c.args.cells.now))) (sym c.in_ok-push.ensures.ok)
          (cell_put c.args.ring.now.modulus c.loop-i.i (c.loop-i.i - 1) ss c.args.cells.now c.loop-i.terms next l c.loop-i.invariant.sum
          c.of_u64-c.result c.write_divisor.new.out c.of_u64-c.ensures.value m);
    }

pub loop-i-preserved : goal.loop-i-preserved
loop-i-preserved c =
    let next : suc (c.loop-i.i - 1) ≡ c.loop-i.i = omega arith in
    let l : c.loop-i.i - 1 < length c.args.cells.now = omega arith in
    record {
      terms = c.loop-i.invariant.terms;
      sum = cell_left_out c.args.ring.now.modulus c.loop-i.i (c.loop-i.i - 1) c.args.strides.now c.args.cells.now c.loop-i.terms next l
          c.loop-i.invariant.sum (cc (c.of_u64-c.ensures.value, c.number.ensures, c.if-number-ne0.false));
    }

pub returns-clause-sum : goal.returns-clause-sum
returns-clause-sum c =
    let ss = c.args.strides.now in
    let zero : c.loop-i.i ≡ 0 = omega arith in
    let same : length ss ≡ places c.args.ring.now =
    ap length c.requires.numbered.strides ∙ (strides_length c.requires.numbered.corner ∙ c.requires.numbered.places) in
    c.in_ok-sum.ensures.sum
    ∙ canonical_same c.args.ring.now c.loop-i.terms (terms_at ss 0 c.args.cells.now) (ring_positive c.args.ring.now c.requires.ring)
    (terms_of_ring c.args.ring.now c.loop-i.terms c.loop-i.invariant.terms) (cells_of_ring c.args.ring.now ss 0 c.args.cells.now same)
    (subst (λ n. Alike c.args.ring.now.modulus c.loop-i.terms (terms_at ss n (drop n c.args.cells.now))) zero c.loop-i.invariant.sum)
