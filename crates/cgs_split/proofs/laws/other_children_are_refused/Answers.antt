use Rattle.cgs_split.proofs.ExampleLemmas.{overlap_refused, old_zeros_refused, missing_coefficient_refused, not_minimal_refused}
use Rattle.cgs_split.proofs.laws.other_children_are_refused.Goals as goal

pub returns : goal.returns
returns c = record {
  overlap = overlap_refused;
  old_zeros = old_zeros_refused;
  missing_coefficient = missing_coefficient_refused;
  not_minimal =
      not_minimal_refused;
}
