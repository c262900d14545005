use Rattle.std.proofs.Common.{◌≡◌, arith, max, nat_cmp, length, ℕ, ◌≤◌}
use Rattle.std.specs.Ordering.{ord_max}
use Rattle.std.proofs.lemmas.Bool.Decides.{nat_tests}
use Rattle.cgs_terms.specs.Polynomial.{term}
use Rattle.cgs_terms.proofs.PlaceLemmas.{each_at, top_more}
use Rattle.cgs_terms.proofs.flat.Flat.top_degree.Goals as goal

max_is : (a b : ℕ) → ord_max nat_cmp a b ≡ max a b
max_is a b = grind (arith, nat_tests)

pub degree-requires : goal.degree-requires
degree-requires c =
    each_at (λ d m. length m ≤ 17) c.loop-i.i c.args.self.now (term c.term.result.coefficient c.term.result.exponents.now) c.requires c.term.ensures

pub loop-i-preserved : goal.loop-i-preserved
loop-i-preserved c =
    let t = top_more c.args.self.now c.loop-i.i (term c.term.result.coefficient c.term.result.exponents.now) c.term.ensures in
    omega (arith, t, c.max-top.ensures, max_is c.loop-i.top c.degree.result, c.degree.ensures, c.loop-i.invariant)
