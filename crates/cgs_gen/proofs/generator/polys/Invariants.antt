use Rattle.std.proofs.Common.{◌≡◌, ◌<◌}
use Rattle.cgs_poly.specs.Polynomial.{ArePolys}
use Rattle.cgs_gen.specs.Generator.{states, first_links, state_at}
use Rattle.cgs_gen.proofs.generator.polys.Given as goal

abbrev pub invariant-loop-i : goal.invariant-loop-i
invariant-loop-i l = record {
  state : l.state ≡ state_at l.k l.i;
  small : l.state < states;
  links : l.polys ≡ first_links l.links l.k l.i;
  polys : ArePolys l.ring l.polys;
}
