use Rattle.std.proofs.lemmas.Bool.{false_from_ne_true, eq-eqb}
use Rattle.cgs_exps.specs.Monomial.{divides}
use Rattle.cgs_exps.proofs.MaskLemmas.{mask_divides}
use Rattle.cgs_exps.proofs.laws.divisor_has_mask_within.Goals as goal

pub returns : goal.returns
returns c a b p apart = false_from_ne_true (divides a b) (λ d. cc (apart, eq-eqb _ _ (mask_divides a b p d)))
