-- What a ring's modulus and number of places are known to be.
use Rattle.std.proofs.Common.{ℕ, ◌<◌, ◌≤◌, arith}
use Rattle.cgs_field.specs.Prime.{IsModulus}
use Rattle.cgs_field.proofs.PrimeLemmas.{modulus_prime}
use Rattle.cgs_terms.specs.declared.ring.Ring.{Ring}
use Rattle.cgs_terms.specs.Polynomial.{IsRing, places}

pub modulus_positive : (p : ℕ) → IsModulus p → 0 < p
modulus_positive p h = omega (arith, (modulus_prime p h).above_one)

pub ring_positive : (ring : Ring) → IsRing ring → 0 < ring.modulus
ring_positive ring h = modulus_positive ring.modulus h.modulus

pub places_few : (ring : Ring) → IsRing ring → places ring ≤ 17
places_few ring h = omega (arith, h.variables, h.parameters)
