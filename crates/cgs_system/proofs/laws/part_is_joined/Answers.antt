use Rattle.std.proofs.Common.{refl}
use Rattle.cgs_order.specs.TermOrder.{key, compared}
use Rattle.cgs_divide.specs.DivisionRun.{divided}
use Rattle.cgs_field.specs.Inverse.{inverse}
use Rattle.cgs_poly.specs.Monic.{monic_of}
use Rattle.cgs_divide.specs.AutoreductionRun.{autoreduction}
use Rattle.cgs_basis.specs.BasisRun.{completion, basis_run}
use Rattle.cgs_board.specs.Tree.{preorder}
use Rattle.cgs_split.specs.NodeRun.{node_of, height_of}
use Rattle.cgs_system.proofs.ExampleLemmas.{line_exact, part_left_out_refused, other_conditions_refused, other_path_refused}
use Rattle.cgs_system.proofs.laws.part_is_joined.Goals as goal

pub returns-clause-joined : goal.returns-clause-joined
unfolding key compared divided inverse monic_of autoreduction completion basis_run preorder node_of height_of
returns-clause-joined c = (c.tree_examples.ensures.line.1, refl, refl)

pub returns-clause-left_out : goal.returns-clause-left_out
returns-clause-left_out c = part_left_out_refused

pub returns-clause-other_conditions : goal.returns-clause-other_conditions
returns-clause-other_conditions c = other_conditions_refused

pub returns-clause-other_path : goal.returns-clause-other_path
returns-clause-other_path c = other_path_refused (line_exact _ _ c.tree_examples.ensures.line.0)
