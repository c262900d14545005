use Rattle.std.proofs.Common.{◌*◌, ◌%◌, ◌+◌, ◌≤◌, ◌/◌, arith, subst, Bool}
use Rattle.std.proofs.Math.Nat.{mod-lt, div-add-mod'}
use Rattle.cgs_field.proofs.EuclidLemmas.{AreRows, first_rows, next_rows, factor_bound, last_factor, last_plain, last_opposite}
use Rattle.cgs_field.proofs.euclid.inverse_modulo.Goals as goal

pub loop-remainder-init : goal.loop-remainder-init
loop-remainder-init c = first_rows c.args.p c.args.a c.requires.positive c.requires.below

-- the next factor is at most p
factor_within : (c : goal.In-loop-remainder)
    → c.loop-remainder.factor_before + c.loop-remainder.before / c.loop-remainder.remainder * c.loop-remainder.factor ≤ c.args.p
factor_within c =
    let l = c.loop-remainder in
    factor_bound c.args.p l.before l.factor_before l.remainder l.factor (l.before / l.remainder) (l.before % l.remainder)
    (div-add-mod' l.before l.remainder) l.invariant.whole l.invariant.positive

pub overflow_mul-factor : goal.overflow_mul-factor
overflow_mul-factor c = omega (arith, factor_within c, c.requires.fits)

pub overflow_add-factor : goal.overflow_add-factor
overflow_add-factor c = omega (arith, factor_within c, c.requires.fits)

pub loop-remainder-preserved : goal.loop-remainder-preserved
loop-remainder-preserved c =
    let l = c.loop-remainder in
    next_rows c.args.p c.args.a l.opposite l.before l.factor_before l.remainder l.factor (l.before / l.remainder) (l.before % l.remainder)
    c.requires.prime (div-add-mod' l.before l.remainder) (mod-lt l.before l.invariant.positive) c.loop-remainder-test.true l.invariant

pub overflow_sub-result : goal.overflow_sub-result
overflow_sub-result c =
    let l = c.loop-remainder in
    omega (arith, last_factor c.args.p c.args.a l.before l.factor_before l.remainder l.factor l.opposite c.loop-remainder-test.false l.invariant)

pub returns-then-opposite-clause-product : goal.returns-then-opposite-clause-product
returns-then-opposite-clause-product c =
    let l = c.loop-remainder in
    last_opposite c.args.p c.args.a l.before l.factor_before l.remainder l.factor c.requires.prime c.loop-remainder-test.false
    (subst (λ (o : Bool). AreRows c.args.p c.args.a o l.before l.factor_before l.remainder l.factor) c.if-opposite.true l.invariant)

pub returns-then-opposite-clause-below : goal.returns-then-opposite-clause-below
returns-then-opposite-clause-below c = omega (arith, c.loop-remainder.invariant.some, c.requires.below)

pub returns-else-opposite-clause-product : goal.returns-else-opposite-clause-product
returns-else-opposite-clause-product c =
    let l = c.loop-remainder in
    last_plain c.args.p c.args.a l.before l.factor_before l.remainder l.factor c.requires.prime c.loop-remainder-test.false
    (subst (λ (o : Bool). AreRows c.args.p c.args.a o l.before l.factor_before l.remainder l.factor) c.if-opposite.false l.invariant)

pub returns-else-opposite-clause-below : goal.returns-else-opposite-clause-below
returns-else-opposite-clause-below c =
    let l = c.loop-remainder in
    last_factor c.args.p c.args.a l.before l.factor_before l.remainder l.factor l.opposite c.loop-remainder-test.false l.invariant
