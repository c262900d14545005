use Rattle.std.proofs.Common.{◌≡◌, [], drop, get_or, set, ap, sym, ◌∙◌, subst, refl}
use Rattle.std.proofs.lemmas.List.{get_or_read}
use Rattle.cgs_terms.specs.Polynomial.{ArePolys, canonical}
use Rattle.cgs_terms.proofs.RingLemmas.{modulus_positive}
use Rattle.cgs_bucket.specs.Levels.{Contents, all_terms}
use Rattle.cgs_bucket.proofs.LevelLemmas.{front_first, set_polys, drop_poly, polys_at}
use Rattle.cgs_bucket.proofs.bucket.Bucket.drop_lead.Goals as goal
use Rattle.cgs_bucket.proofs.bucket.Bucket.drop_lead.Goals.{After-drop_first}

-- the level that loses its first term
dropped : (c : After-drop_first) → c.drop_first.new.self ≡ drop 1 (get_or c.settled.new.levels.items c.in-Some.k [])
dropped c =
    c.drop_first.ensures
    ∙ ap (drop 1) (get_or_read c.settled.new.levels.items c.in-Some.k c.index_mut.result.now c.in-Some.ensures.front.within c.index_mut.ensures.value [])

pub invariant_of-self-in-Some : goal.invariant_of-self-in-Some
invariant_of-self-in-Some c =
    let ring = c.self.inside.ring in
    let L = c.settled.new.levels.items in
    let k = c.in-Some.k in
    record {
      few = c.self.invariant.few;
      modulus = c.self.invariant.modulus;
      polys = subst (λ f. ArePolys c.self.inside.ring (set c.settled.new.levels.items c.in-Some.k f))
          (sym (dropped (goal.at.invariant_of-self-in-Some c).After-drop_first))
          (set_polys ring L k (drop 1 (get_or L k [])) c.settled.ensures.same.polys
          (drop_poly ring (get_or L k []) (polys_at ring L k c.settled.ensures.same.polys)));
    }

pub returns-in-Some-clause-terms : goal.returns-in-Some-clause-terms
returns-in-Some-clause-terms c =
    let ring = c.self.inside.ring in
    let before = sym (ap (λ (b : Contents). b.terms) c.self.view_is) ∙ sym c.settled.ensures.same.sum in
    let first = front_first ring c.settled.new.levels.items c.in-Some.k (modulus_positive ring.modulus c.self.invariant.modulus)
    c.settled.ensures.same.polys c.in-Some.ensures.front in
    ap (λ f. canonical c.self.inside.ring (all_terms (set c.settled.new.levels.items c.in-Some.k f)))
    (dropped (goal.at.returns-in-Some-clause-terms c).After-drop_first)
    ∙ sym (ap (drop 1) (before ∙ first))

pub returns-in-None-clause-terms : goal.returns-in-None-clause-terms
returns-in-None-clause-terms c =
    let before = sym (ap (λ (b : Contents). b.terms) c.self.view_is) ∙ sym c.settled.ensures.same.sum in
    absurd (c.requires (before ∙ ap (canonical c.self.inside.ring) (c.in-None.ensures.none refl)))
