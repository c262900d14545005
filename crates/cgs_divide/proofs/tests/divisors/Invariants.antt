use Rattle.std.proofs.Common.{◌≡◌}
use Rattle.std.specs.List.{AllByRecursion}
use Rattle.cgs_poly.specs.Polynomial.{ArePolys}
use Rattle.cgs_poly.specs.Product.{leading_coefficient}
use Rattle.cgs_divide.proofs.tests.divisors.Given as goal

abbrev pub invariant-loop-terms : goal.invariant-loop-terms
invariant-loop-terms l = record {
  polys : ArePolys l.ring l.list;
  monic : AllByRecursion (λ g. leading_coefficient g ≡ 1) l.list;
}
