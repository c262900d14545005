use Rattle.std.proofs.Common.{◌≡◌, ◌<◌, None, [], length, get_or, ap, ◌∙◌, sym, subst, arith}
use Rattle.std.proofs.lemmas.List.{get_or_read}
use Rattle.cgs_list.proofs.ListLemmas.{all_at_place}
use Rattle.cgs_poly.specs.Polynomial.{IsPoly}
use Rattle.cgs_poly.specs.Draft.{HaveLength}
use Rattle.cgs_poly.proofs.PlaceLemmas.{canonical_length}
use Rattle.cgs_divide.specs.Tops.{top_behind_lead}
use Rattle.cgs_divide.proofs.StepLemmas.{get_read}
use Rattle.cgs_divide.proofs.TopLemmas.{tops_length, top_known, tops_set}
use Rattle.cgs_divide.proofs.tops.Tops.top.Goals as goal
use Rattle.cgs_divide.proofs.tops.Tops.top.Goals.{After-get}

-- the divisor at the place
divisor_is : (c : After-get) → get_or c.args.divisors.now c.args.i [] ≡ c.get.result.now
divisor_is c = get_read c.args.divisors.now c.args.i c.get.result.now [] c.get.ensures

pub index-requires : goal.index-requires
index-requires c = omega (arith, c.requires.within, tops_length c.args.divisors.now c.args.self.now.degrees.items c.requires.known)

pub index_mut-requires : goal.index_mut-requires
index_mut-requires c = omega (arith, c.requires.within, tops_length c.args.divisors.now c.args.self.now.degrees.items c.requires.known)

pub returns-in-Some-clause-top : goal.returns-in-Some-clause-top
returns-in-Some-clause-top c =
    top_known c.args.divisors.now c.args.self.now.degrees.items c.args.i c.in-Some.top c.requires.known
    (sym (get_or_read c.args.self.now.degrees.items c.args.i c.index.result.now
    (omega (arith, c.requires.within, tops_length c.args.divisors.now c.args.self.now.degrees.items c.requires.known)) c.index.ensures None) ∙ c.in-Some.is)

pub top_behind_lead-top-requires-clause-some : goal.top_behind_lead-top-requires-clause-some
top_behind_lead-top-requires-clause-some c =
    subst (λ g. 0 < length g) (divisor_is (goal.at.top_behind_lead-top-requires-clause-some c).After-get) c.requires.some

pub top_behind_lead-top-requires-clause-lengths : goal.top_behind_lead-top-requires-clause-lengths
top_behind_lead-top-requires-clause-lengths c =
    let d = divisor_is (goal.at.top_behind_lead-top-requires-clause-lengths c).After-get in
    let poly : IsPoly c.args.ring.now c.get.result.now = subst (IsPoly c.args.ring.now) d
    (all_at_place (IsPoly c.args.ring.now) [] c.args.divisors.now c.requires.divisors c.args.i c.requires.within) in
    subst (λ n. HaveLength n c.get.result.now) (sym c.places.ensures) (canonical_length c.args.ring.now c.get.result.now poly.canonical)

pub returns-clause-top : goal.returns-clause-top
returns-clause-top c = c.top_behind_lead-top.ensures ∙ ap top_behind_lead (sym (divisor_is (goal.at.returns-clause-top c).After-get))

pub returns-clause-known : goal.returns-clause-known
returns-clause-known c =
    tops_set c.args.divisors.now c.args.self.now.degrees.items c.args.i c.top_behind_lead-top.result c.requires.known
    (c.top_behind_lead-top.ensures ∙ ap top_behind_lead (sym (divisor_is (goal.at.returns-clause-known c).After-get)))
