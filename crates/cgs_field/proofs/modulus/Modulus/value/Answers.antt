use Rattle.std.proofs.Common.{subst}
use Rattle.cgs_field.specs.Prime.{IsPrime}
use Rattle.cgs_field.proofs.PrimeLemmas.{modulus_prime}
use Rattle.cgs_field.proofs.modulus.Modulus.value.Goals as goal

pub returns-clause-prime : goal.returns-clause-prime
returns-clause-prime c = subst IsPrime c.self.view_is (modulus_prime c.self.inside.number c.self.invariant)
