use Rattle.std.proofs.Common.{ℕ, ◌≡◌, ◌+◌, ◌-◌, ◌*◌, ◌<◌, ◌≤◌, ◌⊎◌, inl, inr, true, [], get_or, sym, subst, arith}
use Rattle.std.proofs.lemmas.Bool.{cases_lt}
use Rattle.std.proofs.lemmas.Nat.Bits.{bit_at_and}
use Rattle.cgs_pairs.specs.Passed.{IsThirdPlace}
use Rattle.cgs_pairs.specs.Table.{is_marked}
use Rattle.cgs_pairs.proofs.PassedLemmas.{third_parts, no_third}
use Rattle.cgs_pairs.proofs.TableLemmas.{marked_within, marked_bit}
use Rattle.cgs_pairs.proofs.passing.has_third.Goals as goal
use Rattle.cgs_pairs.proofs.passing.has_third.Goals.{After-partners_of-second}

-- a third place is marked in both rows
marked : (c : After-partners_of-second) (k : ℕ) → IsThirdPlace c.args.pair.now c.args.members.now c.args.taken.now k
    → (is_marked c.partners_of-first.result.now k ≡ true) × (is_marked c.partners_of-second.result.now k ≡ true)
marked c k t =
    let p = third_parts c.args.pair.now c.args.taken.now k (get_or c.args.members.now k []) t.1 in
    (c.partners_of-first.ensures k p.1, c.partners_of-second.ensures k p.2)

pub has_third_in-requires-clause-bits : goal.has_third_in-requires-clause-bits
has_third_in-requires-clause-bits c i l t =
    let at = (goal.at.has_third_in-requires-clause-bits c).After-partners_of-second in
    let m = marked at (64 * c.loop-block.block + i) t in
    omega (
      arith,
      bit_at_and (get_or c.partners_of-first.result.now c.loop-block.block 0) (get_or c.partners_of-second.result.now c.loop-block.block 0) i,
      marked_bit c.partners_of-first.result.now c.loop-block.block i l m.0,
      marked_bit c.partners_of-second.result.now c.loop-block.block i l m.1,
    )

pub loop-block-preserved : goal.loop-block-preserved
loop-block-preserved c k l t = by_case (cases_lt k (64 * c.loop-block.block))
  where
    by_case : (k < 64 * c.loop-block.block) ⊎ (64 * c.loop-block.block ≤ k) → ⊥
    by_case (inl s) = c.loop-block.invariant k s t
    by_case (inr s) =
        let z : k ≡ 64 * c.loop-block.block + (k - 64 * c.loop-block.block) = omega arith in
        c.has_third_in.ensures.none c.if-has_third_in.false (k - 64 * c.loop-block.block) (omega arith)
        (subst (λ n. IsThirdPlace c.args.pair.now c.args.members.now c.args.taken.now n) z t)

pub returns : goal.returns
returns c = sym (no_third c.args.pair.now c.args.taken.now c.args.members.now past)
  where
    past : (k : ℕ) → IsThirdPlace c.args.pair.now c.args.members.now c.args.taken.now k → ⊥
    past k t =
        let m = marked (goal.at.returns c).After-partners_of-second k t in
        let first = marked_within c.partners_of-first.result.now k m.0 in
        let second = marked_within c.partners_of-second.result.now k m.1 in
        c.loop-block.invariant k (omega (arith, first, second, t.0, c.loop-block-test.false, c.min-blocks.ensures, c.min.ensures, c.len.ensures)) t
