use Rattle.std.proofs.Common.{[]}
use Rattle.cgs_text.proofs.NameLemmas.{are_names, no_names_distinct, nothing_after}
use Rattle.cgs_text.proofs.header.take_parameters.Goals as goal

pub returns-clause-progress : goal.returns-clause-progress
returns-clause-progress c =
    let names = c.in_ok-names.names in
    let are = are_names [] 0 c.args.line names c.in_ok-names.ensures in
    (c.requires, record { few = are.few; distinct = nothing_after names (are.distinct no_names_distinct) })
