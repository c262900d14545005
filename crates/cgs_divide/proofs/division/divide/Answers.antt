use Rattle.std.proofs.Common.{[], ap, ◌∙◌, subst}
use Rattle.std.specs.Prelude.{IfOk}
use Rattle.std.proofs.lemmas.Result.{IfOk-weaker}
use Rattle.cgs_list.proofs.ListLemmas.{all_at_place, all_by_places}
use Rattle.cgs_poly.specs.Polynomial.{HasLowDegrees, IsPoly, ArePolys}
use Rattle.cgs_poly.proofs.RingLemmas.{ring_positive}
use Rattle.cgs_algebra.proofs.PlaceLemmas.{canonical_at}
use Rattle.cgs_divide.specs.declared.division.Division.{Division}
use Rattle.cgs_divide.specs.Ending.{Ending, EndsAs}
use Rattle.cgs_divide.specs.DivisionRun.{divided, keeping}
use Rattle.cgs_divide.specs.Division.{HasDivided}
use Rattle.cgs_divide.proofs.DivisionLemmas.{divided_divides, remainder_poly}
use Rattle.cgs_divide.proofs.EndingLemmas.{has_ended}
use Rattle.cgs_divide.proofs.ResumedLemmas.{keeping_all}
use Rattle.cgs_divide.proofs.division.divide.Goals as goal
use Rattle.cgs_divide.proofs.division.divide.Goals.{After-divide_keeping}

abbrev run : After-divide_keeping → Ending Division
run c = divided c.args.ring.now c.args.divisors.now c.args.fuel.now c.args.f.now

-- all quotients are kept
ends : (c : After-divide_keeping) → EndsAs (run c) c.divide_keeping.new.fuel c.divide_keeping.result
ends c =
    subst (λ k. EndsAs k c.divide_keeping.new.fuel c.divide_keeping.result)
    (ap (λ n. keeping n (run c)) c.len.ensures ∙ keeping_all c.args.ring.now c.args.divisors.now c.args.fuel.now c.args.f.now) c.divide_keeping.ensures.ends

all_found : (c : After-divide_keeping)
    → IfOk c.divide_keeping.result (λ d. HasDivided c.args.ring.now c.args.divisors.now c.args.f.now d.remainder d.quotients)
all_found c =
    IfOk-weaker c.divide_keeping.result _ _
    (λ d e. divided_divides c.args.ring.now c.args.divisors.now (ring_positive c.args.ring.now c.requires.ring) c.requires.monic
    c.args.fuel.now c.divide_keeping.new.fuel c.args.f.now d.remainder d.quotients c.requires.poly.canonical e)
    (has_ended (run c) c.divide_keeping.new.fuel c.divide_keeping.result (ends c))

quotient_polys : (c : After-divide_keeping) (d : Division) → HasDivided c.args.ring.now c.args.divisors.now c.args.f.now d.remainder d.quotients
    → ArePolys c.args.ring.now d.quotients
quotient_polys c d h =
    all_by_places (IsPoly c.args.ring.now) [] d.quotients (λ i l.
    record {
      canonical = canonical_at c.args.ring.now d.quotients h.canonical_quotients i l;
      low = all_at_place HasLowDegrees [] d.quotients (h.low_quotients c.requires.poly.low) i l;
    })

pub returns-clause-ends : goal.returns-clause-ends
returns-clause-ends c = ends (goal.at.returns-clause-ends c).After-divide_keeping

pub returns-clause-found : goal.returns-clause-found
returns-clause-found c = all_found (goal.at.returns-clause-found c).After-divide_keeping

pub returns-clause-remainder : goal.returns-clause-remainder
returns-clause-remainder c =
    IfOk-weaker c.divide_keeping.result _ _
    (λ d h. remainder_poly c.args.ring.now c.args.divisors.now c.args.f.now d.remainder d.quotients c.requires.poly h)
    (all_found (goal.at.returns-clause-remainder c).After-divide_keeping)

pub returns-clause-quotients : goal.returns-clause-quotients
returns-clause-quotients c =
    let a = (goal.at.returns-clause-quotients c).After-divide_keeping in
    IfOk-weaker c.divide_keeping.result _ _ (quotient_polys a) (all_found a)
