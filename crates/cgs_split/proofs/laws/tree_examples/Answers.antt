use Rattle.std.proofs.Common.{refl}
use Rattle.cgs_order.specs.TermOrder.{key, compared}
use Rattle.cgs_divide.specs.DivisionRun.{divided}
use Rattle.cgs_field.specs.Inverse.{inverse}
use Rattle.cgs_poly.specs.Monic.{monic_of}
use Rattle.cgs_divide.specs.AutoreductionRun.{autoreduction}
use Rattle.cgs_basis.specs.BasisRun.{completion, basis_run}
use Rattle.cgs_board.specs.Tree.{preorder}
use Rattle.cgs_split.specs.NodeRun.{node_of, height_of}
use Rattle.cgs_split.proofs.laws.tree_examples.Goals as goal

pub returns-clause-line : goal.returns-clause-line
unfolding key compared divided inverse monic_of autoreduction completion basis_run preorder node_of height_of
returns-clause-line c = (refl, refl, refl, refl)

pub returns-clause-given_condition : goal.returns-clause-given_condition
unfolding key compared divided inverse monic_of autoreduction completion basis_run preorder node_of height_of
returns-clause-given_condition c = refl

pub returns-clause-two_members : goal.returns-clause-two_members
unfolding key compared divided inverse monic_of autoreduction completion basis_run preorder node_of height_of
returns-clause-two_members c = (refl, refl)

pub returns-clause-unit : goal.returns-clause-unit
unfolding key compared divided inverse monic_of autoreduction completion basis_run preorder node_of height_of
returns-clause-unit c = (refl, refl)

pub returns-clause-nothing : goal.returns-clause-nothing
unfolding key compared divided inverse monic_of autoreduction completion basis_run preorder node_of height_of
returns-clause-nothing c = (refl, refl)

pub returns-clause-contradiction : goal.returns-clause-contradiction
unfolding key compared divided inverse monic_of autoreduction completion basis_run preorder node_of height_of
returns-clause-contradiction c = refl

pub returns-clause-high_degree : goal.returns-clause-high_degree
unfolding key compared divided inverse monic_of autoreduction completion basis_run preorder node_of height_of
returns-clause-high_degree c = (refl, refl)
