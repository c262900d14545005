use Rattle.std.proofs.Common.{◌++◌, ap, ◌∙◌}
use Rattle.cgs_poly.specs.Polynomial.{canonical}
use Rattle.cgs_poly.specs.Merge.{changed}
use Rattle.cgs_poly.proofs.CanonicalLemmas.{canonical_itself}
use Rattle.cgs_poly.proofs.RingLemmas.{ring_positive}
use Rattle.cgs_poly.proofs.merge.multiplied.Goals as goal

pub returns : goal.returns
returns g c =
    let other = changed (g.M.Multiple.coefficient c.args.by.now c.args.ring.now.modulus) (g.M.Multiple.monomial c.args.by.now) c.args.g.now in
    c.in_ok-multiple.ensures
    ∙ (ap (λ z. canonical c.args.ring.now
    (z ++ changed (g.M.Multiple.coefficient c.args.by.now c.args.ring.now.modulus) (g.M.Multiple.monomial c.args.by.now) c.args.g.now)) c.zero-zero.ensures
    ∙ canonical_itself c.args.ring.now other (ring_positive c.args.ring.now c.requires.ring) c.requires.multiple)
