use Rattle.std.proofs.Common.{ℕ, List, ◌≡◌, ◌+◌, ◌-◌, ◌*◌, ◌%◌, ◌<◌, ◌^◌, ◌++◌, length, get_or, take, drop, replicate, sym, ap, ◌∙◌, subst, arith}
use Rattle.std.proofs.lemmas.List.{take_all, length-replicate}
use Rattle.std.specs.List.{AllByRecursion}
use Rattle.cgs_list.proofs.ListLemmas.{all_at}
use Rattle.cgs_field.proofs.PrimeLemmas.{modulus_small}
use Rattle.cgs_poly.specs.Polynomial.{Term, term, total, places, canonical}
use Rattle.cgs_poly.specs.Draft.{HaveLength}
use Rattle.cgs_poly.specs.Flat.{coefficients_of}
use Rattle.cgs_poly.specs.Product.{multiple, all_products}
use Rattle.cgs_poly.specs.Grid.{count_divisors, strides, number_of, numbers_of, terms_at, with_multiple, HasRoom, IsDivisor}
use Rattle.cgs_poly.proofs.RingLemmas.{ring_positive}
use Rattle.cgs_poly.proofs.SumLemmas.{Alike}
use Rattle.cgs_poly.proofs.PlaceLemmas.{canonical_at, canonical_length}
use Rattle.cgs_poly.proofs.ProductLemmas.{products_of_ring}
use Rattle.cgs_poly.proofs.CanonicalLemmas.{canonical_same, canonical_of_ring}
use Rattle.cgs_poly.proofs.GridLemmas.{strides_length, number_below, have_length}
use Rattle.cgs_poly.proofs.CellLemmas.{room_less, room_at_start, room_multiple, multiple_cells, row_left, written_back, same_multiple, empty_total}
use Rattle.cgs_poly.proofs.CellLemmas.{row_at, row_added, row_within, numbers_length, coefficients_length, coefficients_small, divisors_fit, cells_of_ring}
use Rattle.cgs_poly.proofs.cells.product_on.Goals as goal
use Rattle.cgs_poly.proofs.cells.product_on.Goals.{After-as_slice-strides, After-term-term, After-deref, After-add_multiple}

module _ (c : After-as_slice-strides) where
  strides_are : c.as_slice-strides.result.now ≡ strides c.requires.grid.numbered.corner
  strides_are = c.as_slice-strides.ensures.value ∙ c.requires.grid.numbered.strides

  -- as many strides as places
  many : length c.as_slice-strides.result.now ≡ places c.args.ring.now
  many = ap length strides_are ∙ (strides_length c.requires.grid.numbered.corner ∙ c.requires.grid.numbered.places)

  few : count_divisors c.requires.grid.numbered.corner < 2 ^ 64
  few = omega (arith, c.requires.grid.few, c.requires.grid.small, c.requires.grid.numbered.count)

pub numbers_of-requires-clause-places : goal.numbers_of-requires-clause-places
numbers_of-requires-clause-places c =
    have_length (places c.args.ring.now) (length c.as_slice-strides.result.now) c.args.g.now (sym (many c))
    (canonical_length c.args.ring.now c.args.g.now c.requires.second.canonical)

pub numbers_of-requires-clause-fit : goal.numbers_of-requires-clause-fit
numbers_of-requires-clause-fit c =
    subst (λ ss. AllByRecursion (λ (x : Term). number_of ss x.exponents < 2 ^ 64) c.args.g.now) (sym (strides_are c))
    (divisors_fit c.requires.grid.numbered.corner c.args.g.now (few c) c.requires.grid.corner.second)

pub loop-i-init : goal.loop-i-init
loop-i-init c =
    let e : c.in_ok-cells.cells.items ≡ replicate c.args.grid.now.cells 0 = c.in_ok-cells.ensures.items_if_clones_equal (λ y h. h) in
    let n : length c.args.f.now - 0 ≡ length c.args.f.now = omega arith in
    record {
      cells = ap length e ∙ length-replicate c.args.grid.now.cells 0;
      room = rw (e, n) (room_at_start c.args.grid.now.cells (length c.args.f.now * length c.args.g.now) c.requires.grid.small);
      sum = record {
        under = λ w. ap (λ cells. total w (terms_at c.args.grid.now.strides.items 0 cells) % c.args.ring.now.modulus) e
            ∙ ap (λ k. k % c.args.ring.now.modulus) (empty_total w c.args.grid.now.strides.items c.args.grid.now.cells 0);
      };
    }

-- a term of f
module _ (c : After-term-term) where
  x : Term
  x = term c.term-term.result.coefficient c.term-term.result.exponents.now

  row : AllByRecursion (IsDivisor c.requires.grid.numbered.corner) (multiple c.term-term.result.coefficient c.term-term.result.exponents.now c.args.g.now)
  row = row_at (IsDivisor c.requires.grid.numbered.corner) c.args.f.now c.args.g.now c.loop-i.i
      (term c.term-term.result.coefficient c.term-term.result.exponents.now) c.term-term.ensures c.requires.grid.corner.products

  x_places : length c.term-term.result.exponents.now ≡ places c.args.ring.now
  x_places = (canonical_at c.args.ring.now c.loop-i.i c.args.f.now (term c.term-term.result.coefficient c.term-term.result.exponents.now)
      c.requires.first.canonical c.term-term.ensures).places

  x_below : c.term-term.result.coefficient < c.args.ring.now.modulus
  x_below = (canonical_at c.args.ring.now c.loop-i.i c.args.f.now (term c.term-term.result.coefficient c.term-term.result.exponents.now)
      c.requires.first.canonical c.term-term.ensures).below

  g_places : HaveLength (length c.term-term.result.exponents.now) c.args.g.now
  g_places = have_length (places c.args.ring.now) (length c.term-term.result.exponents.now) c.args.g.now (sym x_places)
      (canonical_length c.args.ring.now c.args.g.now c.requires.second.canonical)

pub number_of-from-requires-clause-places : goal.number_of-from-requires-clause-places
number_of-from-requires-clause-places c =
    let at = goal.at.number_of-from-requires-clause-places c in
    x_places at.After-term-term ∙ sym (many at.After-as_slice-strides)

pub number_of-from-requires-clause-fits : goal.number_of-from-requires-clause-fits
number_of-from-requires-clause-fits c =
    let at = goal.at.number_of-from-requires-clause-fits c in
    let m = c.requires.grid.numbered.corner in
    let d : IsDivisor c.requires.grid.numbered.corner (term c.term-term.result.coefficient c.term-term.result.exponents.now) =
    all_at (IsDivisor m) c.args.f.now c.loop-i.i (term c.term-term.result.coefficient c.term-term.result.exponents.now)
    c.requires.grid.corner.first c.term-term.ensures in
    rw (strides_are at.After-as_slice-strides)
    (omega (arith, number_below c.requires.grid.numbered.corner c.term-term.result.exponents.now d.places d.divides, few at.After-as_slice-strides))

-- what is added
module _ (c : After-deref) where
  numbers_are : c.deref.result.now ≡ numbers_of (strides c.requires.grid.numbered.corner) c.args.g.now
  numbers_are =
      c.deref.ensures.value ∙ (c.in_ok-numbers.ensures ∙ ap (λ ss. numbers_of ss c.args.g.now) (strides_are (goal.at.After-deref c).After-as_slice-strides))

  from_is : c.number_of-from.result ≡ number_of (strides c.requires.grid.numbered.corner) c.term-term.result.exponents.now
  from_is = c.number_of-from.ensures ∙ ap (λ ss. number_of ss c.term-term.result.exponents.now) (strides_are (goal.at.After-deref c).After-as_slice-strides)

  numbers_many : length c.deref.result.now ≡ length c.args.g.now
  numbers_many = ap length numbers_are ∙ numbers_length (strides c.requires.grid.numbered.corner) c.args.g.now

pub add_multiple-requires-clause-lengths : goal.add_multiple-requires-clause-lengths
add_multiple-requires-clause-lengths c =
    numbers_many c ∙ sym (ap length c.coefficients.ensures ∙ coefficients_length c.args.g.now)

pub add_multiple-requires-clause-room : goal.add_multiple-requires-clause-room
add_multiple-requires-clause-room c =
    rw c.deref_mut.ensures.value
    (room_less (length c.deref.result.now) ((length c.args.f.now - c.loop-i.i) * length c.args.g.now) c.loop-i.cells.items
    (omega (arith, numbers_many c, row_left (length c.args.f.now) (length c.args.g.now) c.loop-i.i (omega (arith, c.loop-i-test.true, c.len-i-end.ensures))))
    c.loop-i.invariant.room)

pub add_multiple-requires-clause-within : goal.add_multiple-requires-clause-within
add_multiple-requires-clause-within c = λ i l.
    let m = c.requires.grid.numbered.corner in
    let at = (goal.at.add_multiple-requires-clause-within c).After-term-term in
    let k : i < length (numbers_of (strides c.requires.grid.numbered.corner) c.args.g.now) = omega (arith, l, ap length (numbers_are c)) in
    let n : get_or c.deref.result.now i 0 ≡ get_or (numbers_of (strides c.requires.grid.numbered.corner) c.args.g.now) i 0 =
    ap (λ ns. get_or ns i 0) (numbers_are c) in
    omega (
      arith,
      n,
      from_is c,
      row_within m c.term-term.result.exponents.now c.term-term.result.coefficient c.args.g.now (g_places at) (row at) i k,
      ap length c.deref_mut.ensures.value,
      c.loop-i.invariant.cells,
      c.requires.grid.numbered.count,
    )

-- the cells with a row added
abbrev added : After-add_multiple → List ℕ
added c =
    with_multiple c.term-term.result.coefficient (number_of (strides c.requires.grid.numbered.corner) c.term-term.result.exponents.now)
    (coefficients_of c.args.g.now) (numbers_of (strides c.requires.grid.numbered.corner) c.args.g.now) c.loop-i.cells.items

module _ (c : After-add_multiple) where
  added_is : c.add_multiple.new.cells ≡ added c
  added_is =
      let at = (goal.at.After-add_multiple c).After-deref in
      c.add_multiple.ensures ∙ same_multiple c.term-term.result.coefficient (from_is at) c.coefficients.ensures (numbers_are at) c.deref_mut.ensures.value

  added_size : length (added c) ≡ length c.loop-i.cells.items
  added_size = multiple_cells c.term-term.result.coefficient (number_of (strides c.requires.grid.numbered.corner) c.term-term.result.exponents.now)
      (coefficients_of c.args.g.now) (numbers_of (strides c.requires.grid.numbered.corner) c.args.g.now) c.loop-i.cells.items

  added_back : take c.loop-i.cells.len (c.add_multiple.new.cells ++ drop (length c.add_multiple.new.cells) c.loop-i.cells.items) ≡ added c
  added_back =
      written_back c.loop-i.cells.len c.add_multiple.new.cells c.loop-i.cells.items (ap length added_is ∙ (added_size ∙ sym c.loop-i.cells.ok.0)) ∙ added_is

  added_room : HasRoom ((length c.args.f.now - (c.loop-i.i + 1)) * length c.args.g.now) (added c)
  added_room =
      let p : c.args.ring.now.modulus < 65536 = modulus_small c.args.ring.now.modulus c.requires.ring.modulus in
      let left : (length c.args.f.now - c.loop-i.i) * length c.args.g.now
      ≡ (length c.args.f.now - (c.loop-i.i + 1)) * length c.args.g.now + length (coefficients_of c.args.g.now) =
      row_left (length c.args.f.now) (length c.args.g.now) c.loop-i.i (omega (arith, c.loop-i-test.true, c.len-i-end.ensures))
      ∙ ap (λ n. (length c.args.f.now - (c.loop-i.i + 1)) * length c.args.g.now + n) (sym (coefficients_length c.args.g.now)) in
      room_multiple ((length c.args.f.now - (c.loop-i.i + 1)) * length c.args.g.now) c.term-term.result.coefficient
      (number_of (strides c.requires.grid.numbered.corner) c.term-term.result.exponents.now) (coefficients_of c.args.g.now)
      (numbers_of (strides c.requires.grid.numbered.corner) c.args.g.now) c.loop-i.cells.items
      (omega (arith, p, x_below (goal.at.After-deref (goal.at.After-add_multiple c).After-deref).After-term-term))
      (coefficients_small c.args.ring.now c.args.g.now p c.requires.second.canonical)
      (subst (λ n. HasRoom n c.loop-i.cells.items) left c.loop-i.invariant.room)

  added_sum : Alike c.args.ring.now.modulus (terms_at c.args.grid.now.strides.items 0 (added c))
      (all_products (take (c.loop-i.i + 1) c.args.f.now) c.args.g.now)
  added_sum =
      let p = c.args.ring.now.modulus in
      let m = c.requires.grid.numbered.corner in
      let f = c.args.f.now in
      let g = c.args.g.now in
      subst (λ ss. Alike p (terms_at ss 0 (added c)) (all_products (take (c.loop-i.i + 1) f) g)) (sym c.requires.grid.numbered.strides)
      (row_added p c.loop-i.i m f g (term c.term-term.result.coefficient c.term-term.result.exponents.now) c.loop-i.cells.items c.term-term.ensures
      (g_places (goal.at.After-deref (goal.at.After-add_multiple c).After-deref).After-term-term) c.requires.grid.corner.products
      (c.loop-i.invariant.cells ∙ c.requires.grid.numbered.count)
      (subst (λ ss. Alike p (terms_at ss 0 c.loop-i.cells.items) (all_products (take c.loop-i.i f) g)) c.requires.grid.numbered.strides c.loop-i.invariant.sum))

pub loop-i-preserved : goal.loop-i-preserved
loop-i-preserved c =
    let a = (goal.at.loop-i-preserved c).After-add_multiple in
    let whole = added_back a in
    record {
      cells = ap length whole ∙ (added_size a ∙ c.loop-i.invariant.cells);
      room = subst (HasRoom ((length c.args.f.now - (c.loop-i.i + 1)) * length c.args.g.now)) (sym whole) (added_room a);
      sum =
          subst (λ xs. Alike c.args.ring.now.modulus (terms_at c.args.grid.now.strides.items 0 xs)
          (all_products (take (c.loop-i.i + 1) c.args.f.now) c.args.g.now)) (sym whole) (added_sum a);
    }

pub returns-clause-product : goal.returns-clause-product
returns-clause-product c =
    let ring = c.args.ring.now in
    let ss = c.args.grid.now.strides.items in
    let f = c.args.f.now in
    let g = c.args.g.now in
    let all : take c.loop-i.i c.args.f.now ≡ c.args.f.now = take_all c.loop-i.i c.args.f.now (omega (arith, c.len-i-end.ensures, c.loop-i-test.false)) in
    let same : length c.args.grid.now.strides.items ≡ places c.args.ring.now =
    ap length c.requires.grid.numbered.strides ∙ (strides_length c.requires.grid.numbered.corner ∙ c.requires.grid.numbered.places) in
    c.in_ok-product.ensures.sum
    ∙ (ap (λ xs. canonical ring (terms_at xs 0 c.deref-3.result.now)) c.as_slice-strides.ensures.value
    ∙ (ap (λ cells. canonical ring (terms_at ss 0 cells)) c.deref-3.ensures.value
    ∙ canonical_same ring (terms_at ss 0 c.loop-i.cells.items) (all_products f g) (ring_positive ring c.requires.ring)
    (cells_of_ring ring ss 0 c.loop-i.cells.items same)
    (products_of_ring ring f g (canonical_of_ring ring f c.requires.first.canonical) (canonical_of_ring ring g c.requires.second.canonical))
    (subst (λ h. Alike ring.modulus (terms_at ss 0 c.loop-i.cells.items) (all_products h g)) all c.loop-i.invariant.sum)))
