use Rattle.std.proofs.Common.{get_or, arith}
use Rattle.cgs_tokens.proofs.NumberLemmas.{digit_at, room, one_more, goes_on}
use Rattle.cgs_tokens.proofs.lexeme.digits_value.Goals as goal

pub overflow_mul-value : goal.overflow_mul-value
overflow_mul-value c = omega (arith, room c.loop-digit.value c.loop-digit.digit-index (omega arith) c.loop-digit.invariant.small)

pub overflow_sub-value : goal.overflow_sub-value
overflow_sub-value c = (digit_at c.args.digits.now c.loop-digit.digit-index c.requires.digits c.loop-digit-test.true).0

pub overflow_add-value : goal.overflow_add-value
overflow_add-value c = omega (
  arith,
  room c.loop-digit.value c.loop-digit.digit-index (omega arith) c.loop-digit.invariant.small,
  (digit_at c.args.digits.now c.loop-digit.digit-index c.requires.digits c.loop-digit-test.true).1,
)

pub loop-digit-preserved : goal.loop-digit-preserved
loop-digit-preserved c =
    let d = digit_at c.args.digits.now c.loop-digit.digit-index c.requires.digits c.loop-digit-test.true in
    record {
      small = one_more c.loop-digit.value c.loop-digit.digit-index (get_or c.args.digits.now c.loop-digit.digit-index 0) d.1 c.loop-digit.invariant.small;
      so_far = goes_on c.args.digits.now c.loop-digit.digit-index c.loop-digit.value c.requires.digits c.loop-digit-test.true c.loop-digit.invariant.so_far;
    }
