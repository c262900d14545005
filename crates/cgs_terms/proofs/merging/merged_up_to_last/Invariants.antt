use Rattle.std.proofs.Common.{◌≡◌, ◌≤◌, ◌+◌, ◌-◌, ◌++◌, length, drop}
use Rattle.cgs_terms.specs.Polynomial.{places, canonical}
use Rattle.cgs_terms.specs.Draft.{terms_in, IsFlat, HasRoom}
use Rattle.cgs_terms.specs.Merge.{changed}
use Rattle.cgs_terms.proofs.merging.merged_up_to_last.Given as goal

abbrev pub invariant-loop-j : goal.invariant-loop-j
invariant-loop-j g l = record {
  flat : IsFlat l.sum;
  places : l.sum.places ≡ places l.ring;
  within : l.i ≤ length l.f;
  room : HasRoom l.sum ((length l.f - l.i) + (length l.g - l.j));
  sum : terms_in l.sum ++ canonical l.ring (drop l.i l.f ++ drop l.j (changed (g.M.Multiple.coefficient l.by l.ring.modulus) (g.M.Multiple.monomial l.by) l.g))
      ≡ canonical l.ring (l.f ++ changed (g.M.Multiple.coefficient l.by l.ring.modulus) (g.M.Multiple.monomial l.by) l.g);
}
