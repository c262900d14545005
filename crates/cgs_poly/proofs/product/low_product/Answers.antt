use Rattle.std.proofs.Common.{sym}
use Rattle.cgs_poly.specs.Polynomial.{places}
use Rattle.cgs_poly.proofs.PlaceLemmas.{canonical_length}
use Rattle.cgs_poly.proofs.GridLemmas.{have_length}
use Rattle.cgs_poly.proofs.product.low_product.Goals as goal

pub for_product-requires-clause-first : goal.for_product-requires-clause-first
for_product-requires-clause-first c =
    have_length (places c.args.ring.now) c.places.result c.args.f.now (sym c.places.ensures)
    (canonical_length c.args.ring.now c.args.f.now c.requires.first.canonical)

pub for_product-requires-clause-second : goal.for_product-requires-clause-second
for_product-requires-clause-second c =
    have_length (places c.args.ring.now) c.places.result c.args.g.now (sym c.places.ensures)
    (canonical_length c.args.ring.now c.args.g.now c.requires.second.canonical)
