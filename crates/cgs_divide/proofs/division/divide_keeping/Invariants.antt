use Rattle.std.proofs.Common.{◌≤◌, ℕ, [], length, get_or}
use Rattle.cgs_poly.specs.Polynomial.{places}
use Rattle.cgs_poly.specs.Draft.{HaveLength}
use Rattle.cgs_divide.specs.DivisionRun.{divided}
use Rattle.cgs_divide.specs.Rest.{left, IsRest}
use Rattle.cgs_divide.specs.Tops.{AreTops}
use Rattle.cgs_divide.proofs.ResumedLemmas.{IsResumed}
use Rattle.cgs_divide.proofs.division.divide_keeping.Given as goal

-- the run is what was found so far, and the run of the terms that are left
abbrev pub invariant-loop-c : goal.invariant-loop-c
invariant-loop-c l = record {
  run : IsResumed (divided l.ring l.divisors l.fn.fuel l.f) l.remainder (length l.divisors) l.fn.kept l.quotients.items
      (divided l.ring l.divisors l.fuel (left l.ring l.rest l.f));
  rest : IsRest l.ring l.f l.rest;
  remainder : HaveLength (places l.ring) l.remainder;
  units : l.fuel ≤ l.fn.fuel;
  tops : AreTops l.divisors l.tops.degrees.items;
  lengths : (i : ℕ) → HaveLength (places l.ring) (get_or l.quotients.items i []);
}

abbrev pub decreases-loop-c : goal.decreases-loop-c
decreases-loop-c l = l.fuel
