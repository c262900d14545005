use Rattle.std.proofs.Common.{◌∷◌, [], ap, ◌∙◌}
use Rattle.cgs_poly.specs.Polynomial.{one}
use Rattle.cgs_radical.proofs.TestLemmas.{alone_is_one}
use Rattle.cgs_split.specs.Cases.{Case}
use Rattle.cgs_split.proofs.CodeLemmas.{divided_is}
use Rattle.cgs_split.proofs.branch.Branch.divided.Goals as goal

pub returns : goal.returns
returns c =
    let whole = c.in_ok-whole.ensures.ok ∙ ap (λ ring. one ring ∷ []) (ap (λ (k : Case). k.ring) c.self.view_is) in
    divided_is c.args.self.now c.args.path.now c.args.basis c.in_ok-children.children.items
    (alone_is_one c.args.self.now.ring c.args.basis c.in_ok-whole.whole c.are_same.result whole c.are_same.ensures
    ∙ c.if-are_same.false) c.in_ok-children.ensures
