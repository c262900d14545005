use Rattle.std.proofs.Common.{◌≡◌, ◌-◌, length}
use Rattle.cgs_poly.specs.Polynomial.{places}
use Rattle.cgs_divide.specs.Rest.{left, IsRest}
use Rattle.cgs_divide.proofs.rest.Rest.take_lead.Given as goal

-- what is left stays as it is while terms of one monomial cancel
abbrev pub invariant-loop-c : goal.invariant-loop-c
invariant-loop-c l = record {
  same : left l.ring l.self l.f ≡ left l.ring l.fn.self l.f;
  rest : IsRest l.ring l.f l.self;
  out : length l.out ≡ places l.ring;
}

abbrev pub decreases-loop-c : goal.decreases-loop-c
decreases-loop-c l = length l.f - l.self.from
