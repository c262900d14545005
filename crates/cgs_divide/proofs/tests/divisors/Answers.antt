use Rattle.std.proofs.Common.{◌≡◌, [], ◌∷◌, ◌++◌, length, ap, ◌∙◌, arith}
use Rattle.cgs_poly.specs.Polynomial.{IsPoly, IsCanonical}
use Rattle.cgs_poly.specs.Product.{leading_coefficient}
use Rattle.cgs_list.proofs.ListLemmas.{all_push, all_weaker}
use Rattle.cgs_divide.proofs.tests.divisors.Goals as goal
use Rattle.cgs_divide.proofs.tests.divisors.Goals.{then-len-gt0+in_ok-push, else-len-gt0}

pub loop-terms-preserved : goal.loop-terms-preserved
loop-terms-preserved c = elim c.if-len-gt0.branch [
  | then-len-gt0+in_ok-push w ↦
      let leading_monomial : leading_coefficient c.in_ok-monic.monic ≡ 1 =
      c.in_ok-monic.ensures.lead (λ e. let z : length c.in_ok-f.f ≡ 0 = ap length e in omega (arith, z, w.if-len-gt0.true, c.len.ensures)) in
      let is : c.if-len-gt0.list ≡ c.loop-terms.list ++ c.in_ok-monic.monic ∷ [] = w.list-is ∙ w.in_ok-push.ensures.ok in
      record {
        polys = rw is
            (all_push (IsPoly c.args.ring.now) c.loop-terms.list c.in_ok-monic.monic c.loop-terms.invariant.polys c.in_ok-monic.ensures.poly);
        monic = rw is (all_push (λ g. leading_coefficient g ≡ 1) c.loop-terms.list c.in_ok-monic.monic c.loop-terms.invariant.monic leading_monomial);
      }
  | else-len-gt0 w ↦ rw w.list-is c.loop-terms.invariant
]

pub returns-clause-monic : goal.returns-clause-monic
returns-clause-monic c = record {
  canonical = all_weaker (IsPoly c.args.ring.now) (IsCanonical c.args.ring.now) c.loop-terms.list c.loop-terms.invariant.polys (λ f p. p.canonical);
  monic = c.loop-terms.invariant.monic;
}

pub returns-clause-polys : goal.returns-clause-polys
returns-clause-polys c = c.loop-terms.invariant.polys
