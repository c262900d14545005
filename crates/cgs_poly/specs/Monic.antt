-- Monic polynomials: the multiple by a number whose leading coefficient is 1.
use Rattle.std.specs.Prelude.{List}
use Rattle.cgs_field.specs.Inverse.{inverse}
use Rattle.cgs_poly.specs.Ring.{Ring}
use Rattle.cgs_poly.specs.Polynomial.{Term, canonical}
use Rattle.cgs_poly.specs.Product.{scaled, leading_coefficient}

-- f divided by its leading coefficient; 0 stays 0
unfoldable pub monic_of : Ring → List Term → List Term
monic_of ring f = canonical ring (scaled (inverse ring.modulus (leading_coefficient f)) f)
