use Rattle.cgs_system.proofs.ExampleLemmas.{line_exact, gap_refused, other_order_refused, untested_refused}
use Rattle.cgs_system.proofs.laws.line_list_is_exact.Goals as goal

pub returns-clause-exact : goal.returns-clause-exact
returns-clause-exact c = line_exact _ _ c.tree_examples.ensures.line.0

pub returns-clause-gap : goal.returns-clause-gap
returns-clause-gap c = gap_refused (line_exact _ _ c.tree_examples.ensures.line.0)

pub returns-clause-other_order : goal.returns-clause-other_order
returns-clause-other_order c = other_order_refused (line_exact _ _ c.tree_examples.ensures.line.0)

pub returns-clause-untested : goal.returns-clause-untested
returns-clause-untested c = untested_refused (line_exact _ _ c.tree_examples.ensures.line.0)
