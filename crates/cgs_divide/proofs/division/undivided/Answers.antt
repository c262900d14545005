use Rattle.std.proofs.Common.{ℕ, List, suc, ◌≡◌, ◌+◌, ◌-◌, ◌<◌, ◌≤◌, true, false, Option, None, Some, drop, length, arith, refl, ap, sym, ◌∙◌}
use Rattle.std.proofs.lemmas.List.{length-drop}
use Rattle.std.specs.Option.{is_some}
use Rattle.std.specs.Prelude.{IfSome, IsNone}
use Rattle.cgs_list.proofs.ListLemmas.{all_at}
use Rattle.cgs_poly.specs.Polynomial.{Term}
use Rattle.cgs_divide.specs.DivisionRun.{undivided}
use Rattle.cgs_divide.proofs.UndividedLemmas.{within_limit, within_terms, at_divided, at_kept}
use Rattle.cgs_divide.proofs.division.undivided.Goals as goal

pub first_divisor-requires-clause-lengths : goal.first_divisor-requires-clause-lengths
first_divisor-requires-clause-lengths c i l =
    sym (all_at (λ (x : Term). length x.exponents ≡ _) c.args.f.now c.loop-i.i _ (c.requires.lengths i l) c.term.ensures)

-- what the search found

found : (o : Option ℕ) (k n : ℕ) → is_some o ≡ true → IfSome o (λ i. (i < n) × (k ≡ i)) → k < n
found None k n e h = absurd (cc)
found (Some i) k n e h = omega (arith, h.0, h.1)

lost : (o : Option ℕ) (k n : ℕ) → is_some o ≡ false → (IsNone o → n ≤ k) → n ≤ k
lost None k n e h = h refl
lost (Some i) k n e h = absurd (cc)

pub returns-then-is_some : goal.returns-then-is_some
returns-then-is_some c =
    let h = found c.first_divisor.result _ _ (sym c.is_some.ensures ∙ c.if-is_some.true) c.first_divisor.ensures.first in
    omega (
      arith,
      at_divided c.args.divisors.now (c.args.limit - c.loop-i.i) c.loop-i.i c.args.f.now _ c.term.ensures h,
      c.loop-i.invariant.so_far,
    )

pub loop-i-preserved : goal.loop-i-preserved
loop-i-preserved c =
    let h = lost c.first_divisor.result _ _ (sym c.is_some.ensures ∙ c.if-is_some.false) c.first_divisor.ensures.none in
    let less : c.loop-i.i < c.args.limit = omega (arith, c.loop-i-test.true, c.min-most.ensures) in
    let n : suc (c.args.limit - (c.loop-i.i + 1)) ≡ c.args.limit - c.loop-i.i = omega (arith, less) in
    let next = at_kept c.args.divisors.now (c.args.limit - (c.loop-i.i + 1)) c.loop-i.i c.args.f.now _ c.term.ensures h in
    record {
      limit = omega (arith, less);
      so_far = omega (
        arith,
        ap (λ k. undivided k c.args.divisors.now (drop c.loop-i.i c.args.f.now)) n,
        next,
        c.loop-i.invariant.so_far,
      );
    }

pub returns : goal.returns
returns c =
    let n : ℕ = c.args.limit - c.loop-i.i in
    let rest : List Term = drop c.loop-i.i c.args.f.now in
    omega (
      arith,
      within_limit n c.args.divisors.now rest,
      within_terms n c.args.divisors.now rest,
      length-drop c.loop-i.i c.args.f.now,
      c.loop-i-test.false,
      c.min-most.ensures,
      c.len.ensures,
      c.loop-i.invariant.so_far,
    )
