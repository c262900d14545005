use Rattle.cgs_field.proofs.PrimeLemmas.{modulus_prime}
use Rattle.cgs_field.proofs.law.moduli_are_prime.Goals as goal

pub returns : goal.returns
returns c = modulus_prime
