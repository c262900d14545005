use Rattle.cgs_entry.proofs.ExampleLemmas.{gap_refused, overlap_refused, wrong_basis_refused, vanishing_lead_refused, repeated_lead_refused}
use Rattle.cgs_entry.proofs.ExampleLemmas.{divided_lead_refused, no_coefficient_refused, turned_terms_refused, variable_in_condition_refused}
use Rattle.cgs_entry.proofs.laws.others_are_refused.Goals as goal

pub returns : goal.returns
returns c = record {
  gap = gap_refused;
  overlap = overlap_refused;
  wrong_basis = wrong_basis_refused;
  vanishing_lead = vanishing_lead_refused;
  repeated_lead = repeated_lead_refused;
  divided_lead = divided_lead_refused;
  no_coefficient = no_coefficient_refused;
  turned_terms = turned_terms_refused;
  variable_in_condition = variable_in_condition_refused;
}
