use Rattle.std.proofs.Common.{◌≡◌, ◌-◌, take, drop}
use Rattle.cgs_poly.specs.Polynomial.{places}
use Rattle.cgs_poly.specs.Draft.{HaveLength}
use Rattle.cgs_member.proofs.parts.terms_between.Given as goal

abbrev pub invariant-loop-i : goal.invariant-loop-i
invariant-loop-i l = record { terms : l.part ≡ take (l.i - l.from) (drop l.from l.f); lengths : HaveLength (places l.ring) l.part }
