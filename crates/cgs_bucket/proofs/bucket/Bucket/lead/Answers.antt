use Rattle.std.proofs.Common.{◌≡◌, List, [], ◌∷◌, get_or, set, drop, ap, sym, ◌∙◌, refl}
use Rattle.std.specs.Prelude.{slice_get}
use Rattle.cgs_terms.specs.Polynomial.{Term, term, canonical}
use Rattle.cgs_terms.proofs.RingLemmas.{modulus_positive}
use Rattle.cgs_bucket.specs.Levels.{Contents, all_terms}
use Rattle.cgs_bucket.proofs.LevelLemmas.{front_is}
use Rattle.cgs_bucket.proofs.bucket.Bucket.lead.Goals as goal
use Rattle.cgs_bucket.proofs.bucket.Bucket.lead.Goals.{After-lead_of}

-- the sum starts with the term that is lent
starts : (c : After-lead_of) → c.args.self.now.terms ≡ term c.lead_of.result.coefficient.now c.lead_of.result.exponents.now ∷
    canonical c.self.inside.ring (all_terms (set c.settled.new.levels.items c.in_ok-k.k (drop 1 (get_or c.settled.new.levels.items c.in_ok-k.k []))))
starts c =
    sym (ap (λ (b : Contents). b.terms) c.self.view_is)
    ∙ (sym c.settled.ensures.same.sum
    ∙ front_is c.self.inside.ring c.settled.new.levels.items c.in_ok-k.k c.lead_of.result.coefficient.now c.lead_of.result.exponents.now
    (modulus_positive c.self.inside.ring.modulus c.self.invariant.modulus) c.settled.ensures.same.polys c.in_ok-k.ensures.front c.lead_of.ensures)

pub returns : goal.returns
returns c =
    let first = starts (goal.at.returns c).After-lead_of in
    let with : List Term → Contents = λ terms. record { ring = c.self.inside.ring; terms = terms } in (
      (refl, λ _. tt, ap with c.settled.ensures.same.sum ∙ c.self.view_is),
      record {
        none = (λ e. cc, λ e. let q = sym first ∙ e in cc);
        first = ap (λ f. slice_get f 0) first;
        stays = tt;
      },
    )
