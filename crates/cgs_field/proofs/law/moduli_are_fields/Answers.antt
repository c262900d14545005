use Rattle.cgs_field.proofs.PrimeLemmas.{modulus_field}
use Rattle.cgs_field.proofs.law.moduli_are_fields.Goals as goal

pub returns : goal.returns
returns c = modulus_field
