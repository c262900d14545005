use Rattle.std.proofs.Common.{ℕ, ◌≡◌, ◌+◌, ◌-◌, ◌<◌, ◌≤◌, List, ap, subst, refl, inl, inr, arith}
use Rattle.cgs_order.specs.declared.block.BlockOrder.{BlockOrder}
use Rattle.cgs_pairs.specs.declared.pair.Pair.{Pair}
use Rattle.cgs_pairs.specs.PairOrder.{PairQueue, IsWaiting, with_pair}
use Rattle.cgs_pairs.proofs.PairLemmas.{pair_from}
use Rattle.cgs_rows.proofs.bases.queue_of.Goals as goal

from_place : (order : BlockOrder) (x q : Pair) (pairs : List Pair) (n i : ℕ) → x.smaller ≡ n - 1 - i → i < n
    → (IsWaiting q pairs → n ≤ q.smaller + i) → IsWaiting q (with_pair order x pairs) → n ≤ q.smaller + (i + 1)
from_place order x q pairs n i place below known w = elim (pair_from order q x pairs w) as (λ _. n ≤ q.smaller + (i + 1)) [
  | inl e ↦ let same = ap (λ (p : Pair). p.smaller) e in omega (arith, same)
  | inr j ↦ let most = known j in omega arith
]

pub push-requires-clause-fresh : goal.push-requires-clause-fresh
push-requires-clause-fresh c = λ w. let most = c.loop-i.invariant.before _ w in omega arith

pub loop-i-preserved : goal.loop-i-preserved
loop-i-preserved c =
    let is = c.in_ok-push.ensures.ok in
    record {
      places = let same = ap (λ (a : PairQueue). a.order.head + a.order.tail) is in omega (arith, same, c.loop-i.invariant.places);
      before = λ q w. from_place _ _ q _ _ _ refl c.loop-i-test.true (c.loop-i.invariant.before q) (subst (λ (a : PairQueue). IsWaiting q a.pairs) is w);
    }
