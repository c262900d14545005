use Rattle.std.proofs.Common.{◌≡◌, take}
use Rattle.cgs_terms.specs.Product.{top_degree}
use Rattle.cgs_terms.proofs.flat.Flat.top_degree.Given as goal

abbrev pub invariant-loop-i : goal.invariant-loop-i
invariant-loop-i l = l.top ≡ top_degree (take l.i l.self)
