use Rattle.cgs_text.proofs.NameLemmas.{are_names}
use Rattle.cgs_text.proofs.header.take_variables.Goals as goal

pub returns-clause-progress : goal.returns-clause-progress
returns-clause-progress c =
    let others = c.args.parameters in
    let are = are_names others 1 c.args.line c.in_ok-variables.variables (rw c.as_slice.ensures at c.in_ok-variables.ensures) in
    record {
      modulus = c.requires.modulus;
      parameters = c.requires.parameters;
      some = are.enough;
      few = are.few;
      distinct = are.distinct c.requires.parameters.distinct;
    }
