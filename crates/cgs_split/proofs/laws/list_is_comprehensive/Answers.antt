use Rattle.cgs_split.specs.NodeRun.{node_of, height_of}
use Rattle.cgs_split.proofs.NodeRunLemmas.{node_is_node}
use Rattle.cgs_split.specs.Heights.{heights_fall}
use Rattle.cgs_split.proofs.PreorderLemmas.{nodes_comprehensive}
use Rattle.cgs_split.proofs.laws.list_is_comprehensive.Goals as goal

pub returns : goal.returns
returns c ring limits zero nonzero polys r z n p =
    nodes_comprehensive ring r node_of height_of heights_fall (λ branch path ok. node_is_node ring branch path r ok) limits zero nonzero polys z n p
