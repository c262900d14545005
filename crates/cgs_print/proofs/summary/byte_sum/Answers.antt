use Rattle.std.proofs.Common.{ℕ, ◌≡◌, ◌<◌, ◌+◌, ◌%◌, List, length, get_or, take, sum, ap, ◌∙◌, sym, arith}
use Rattle.std.proofs.Math.Nat.{mod-add-mod, mod-lt}
use Rattle.std.proofs.lemmas.List.Sums.{sum_by_more}
use Rattle.cgs_print.specs.Summary.{byte_sum}
use Rattle.cgs_print.proofs.summary.byte_sum.Goals as goal

-- one byte more
more : (bytes : List ℕ) (i total byte : ℕ) → i < length bytes → byte ≡ get_or bytes i 0 → total ≡ byte_sum (take i bytes)
    → (total + byte) % 65521 ≡ byte_sum (take (i + 1) bytes)
more bytes i total byte h b e =
    ap (λ n. (n + byte) % 65521) e ∙ mod-add-mod (sum (take i bytes)) 65521 byte ∙ ap (λ n. (sum (take i bytes) + n) % 65521) b
    ∙ ap (λ n. n % 65521) (sym (sum_by_more (λ x. x) bytes i 0 h))

pub loop-byte-preserved : goal.loop-byte-preserved
loop-byte-preserved c = (
  more c.args.bytes.now c.loop-byte.byte-index c.loop-byte.total c.from.result c.loop-byte-test.true c.from.ensures c.loop-byte.invariant.0,
  mod-lt (c.loop-byte.total + c.from.result) (omega arith),
)
