use Rattle.std.proofs.Common.{◌≡◌, ◌&&◌, [], take, filter}
use Rattle.std.specs.List.{AllByRecursion}
use Rattle.cgs_poly.specs.Polynomial.{ArePolys}
use Rattle.cgs_dickson.specs.Dickson.{has_minimal_lead_x, has_least_lead}
use Rattle.cgs_dickson.proofs.dickson.minimal_dickson.Given as goal

abbrev pub invariant-loop-i : goal.invariant-loop-i
invariant-loop-i l = record {
  kept : l.kept ≡ filter (λ g. has_minimal_lead_x l.ring l.members g && has_least_lead l.ring l.members g) (take l.i l.members);
  polys : ArePolys l.ring l.kept;
  nonzero : AllByRecursion (λ g. ¬ (g ≡ [])) l.kept;
}
