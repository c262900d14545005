use Rattle.std.proofs.Common.{◌≡◌, sym, ap, ◌∙◌}
use Rattle.cgs_poly.proofs.RingLemmas.{ring_positive}
use Rattle.cgs_divide.specs.Ending.{ended}
use Rattle.cgs_divide.specs.DivisionRun.{divided, remainder_of}
use Rattle.cgs_divide.specs.Division.{IsRemainder}
use Rattle.cgs_divide.proofs.DivisionLemmas.{left_divided, remainder_poly}
use Rattle.cgs_divide.proofs.EndingLemmas.{followed_twice}
use Rattle.cgs_divide.proofs.division.remainder.Goals as goal
use Rattle.cgs_divide.proofs.division.remainder.Goals.{In_ok-remainder}

-- the remainder is the same, whatever quotients are kept
left : (c : In_ok-remainder) → remainder_of (divided c.args.ring.now c.args.divisors.now c.args.fuel.now c.args.f.now)
    ≡ ended c.in_ok-remainder.field-0.remainder c.divide_keeping.new.fuel
left c = sym (followed_twice (divided c.args.ring.now c.args.divisors.now c.args.fuel.now c.args.f.now) _ _) ∙ ap remainder_of c.in_ok-remainder.ensures.ends

found : (c : In_ok-remainder) → IsRemainder c.args.ring.now c.args.divisors.now c.args.f.now c.in_ok-remainder.field-0.remainder
found c = left_divided c.args.ring.now c.args.divisors.now c.args.fuel.now c.divide_keeping.new.fuel c.args.f.now c.in_ok-remainder.field-0.remainder
    (ring_positive c.args.ring.now c.requires.ring) c.requires.monic c.requires.poly.canonical (left c)

pub returns-clause-ends : goal.returns-clause-ends
returns-clause-ends c = left (goal.at.returns-clause-ends c).In_ok-remainder

pub returns-clause-found : goal.returns-clause-found
returns-clause-found c = found (goal.at.returns-clause-found c).In_ok-remainder

pub returns-clause-poly : goal.returns-clause-poly
returns-clause-poly c =
    remainder_poly c.args.ring.now c.args.divisors.now c.args.f.now c.in_ok-remainder.field-0.remainder _ c.requires.poly
    (found (goal.at.returns-clause-poly c).In_ok-remainder).divided
