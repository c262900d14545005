use Rattle.std.proofs.Common.{◌-◌, ◌++◌, [], ◌∷◌, sym, ap, ◌∙◌, subst, arith}
use Rattle.cgs_list.proofs.ListLemmas.{take_next_from}
use Rattle.cgs_poly.specs.Polynomial.{term, places, IsPoly}
use Rattle.cgs_poly.specs.Draft.{HaveLength}
use Rattle.cgs_poly.proofs.PlaceLemmas.{canonical_at}
use Rattle.cgs_divide.proofs.StepLemmas.{lengths_append}
use Rattle.cgs_member.proofs.PartLemmas.{terms_poly}
use Rattle.cgs_member.proofs.parts.terms_between.Goals as goal

pub push-requires : goal.push-requires
push-requires c =
    let x = canonical_at c.args.ring.now c.loop-i.i c.args.f.now (term c.term-term.result.coefficient c.term-term.result.exponents.now)
    c.requires.poly.canonical c.term-term.ensures in
    record { places = subst (λ n. HaveLength n c.loop-i.part) (sym x.places) c.loop-i.invariant.lengths }

pub loop-i-preserved : goal.loop-i-preserved
loop-i-preserved c =
    let y = term c.term-term.result.coefficient c.term-term.result.exponents.now in
    let x = canonical_at c.args.ring.now c.loop-i.i c.args.f.now y c.requires.poly.canonical c.term-term.ensures in
    record {
      terms = c.in_ok-push.ensures.ok ∙ (ap (λ l. l ++ y ∷ []) c.loop-i.invariant.terms
          ∙ sym (take_next_from c.args.from c.loop-i.i c.args.f.now y (omega (arith, c.loop-i.auto.i)) c.term-term.ensures));
      lengths = subst (HaveLength (places c.args.ring.now)) (sym c.in_ok-push.ensures.ok)
          (lengths_append (places c.args.ring.now) c.loop-i.part c.term-term.result.coefficient c.term-term.result.exponents.now
          c.loop-i.invariant.lengths x.places);
    }

pub returns-clause-poly : goal.returns-clause-poly
returns-clause-poly c =
    subst (IsPoly c.args.ring.now) (sym c.loop-i.invariant.terms)
    (terms_poly c.args.ring.now (c.loop-i.i - c.args.from) c.args.from c.args.f.now c.requires.poly)
