use Rattle.std.proofs.Common.{◌≡◌, ◌<◌, ◌+◌, ◌∷◌, ◌++◌, [], Some, length, drop, refl, sym, ap, ◌∙◌, subst, arith}
use Rattle.std.specs.Prelude.{slice_get}
use Rattle.cgs_bucket.specs.Levels.{Contents}
use Rattle.cgs_poly.specs.Polynomial.{Term, term, IsCanonical, IsPoly, canonical}
use Rattle.cgs_poly.proofs.RingLemmas.{ring_positive}
use Rattle.cgs_poly.proofs.PlaceLemmas.{canonical_at, canonical_drop, canonical_length}
use Rattle.cgs_divide.specs.declared.rest.Rest.{Rest}
use Rattle.cgs_divide.specs.Rest.{against}
use Rattle.cgs_divide.proofs.RestLemmas.{poly_drop, read_own, read_within, if_some_so, nothing_summed, summed_first, own_first, both_first, gone, stays}
use Rattle.cgs_divide.proofs.RestLemmas.{behind_summed, behind_both}
use Rattle.cgs_divide.proofs.rest.Rest.take_lead.Goals as goal
use Rattle.cgs_divide.proofs.rest.Rest.take_lead.Goals.{After-against_own, After-term, After-take_own-2}

-- the polynomial's own terms that are left
own_canonical : (c : After-against_own) → IsCanonical c.args.ring.now (drop c.loop-c.self.from c.args.f.now)
own_canonical c = canonical_drop c.args.ring.now c.loop-c.self.from c.args.f.now c.requires.poly.canonical

-- the leading term of the sum
abbrev summed : After-against_own → Term
summed c = term c.in-Some.c c.summed_lead.new.out

-- how it compares to them
compared_own : (c : After-against_own) → c.against_own.result ≡ against c.args.ring.now c.summed_lead.new.out (drop c.loop-c.self.from c.args.f.now)
compared_own c =
    c.against_own.ensures.order
    ∙ ap (λ (r : Rest). against c.args.ring.now c.summed_lead.new.out (drop r.from c.args.f.now)) c.summed_lead.ensures.same

pub take_own-requires : goal.take_own-requires
take_own-requires c = record {
  places = rw (c.summed_lead.ensures.out ∙ c.loop-c.invariant.out) (canonical_length c.args.ring.now c.args.f.now c.requires.poly.canonical);
}

pub take_own-requires-2 : goal.take_own-requires-2
take_own-requires-2 c = record {
  places = rw (c.summed_lead.ensures.out ∙ c.loop-c.invariant.out) (canonical_length c.args.ring.now c.args.f.now c.requires.poly.canonical);
}

pub returns-in-Greater-clause-first : goal.returns-in-Greater-clause-first
returns-in-Greater-clause-first c =
    let a = (goal.at.returns-in-Greater-clause-first c).After-against_own in
    sym c.loop-c.invariant.same
    ∙ (summed_first c.args.ring.now (ring_positive c.args.ring.now c.requires.ring) c.loop-c.self.sum.terms (drop c.loop-c.self.from c.args.f.now) (summed a)
    c.loop-c.invariant.rest.sum.canonical (own_canonical a) c.in-Some.ensures.first (sym (compared_own a) ∙ c.in-Greater.is)
    ∙ ap (λ k. term c.in-Some.c c.summed_lead.new.out ∷ k)
    (sym (behind_summed c.args.ring.now c.loop-c.self c.summed_lead.new.self c.args.f.now c.drop_lead.new.self.terms c.summed_lead.ensures.same
    c.drop_lead.ensures.terms)))

pub returns-in-Less-clause-first : goal.returns-in-Less-clause-first
returns-in-Less-clause-first c =
    let a = (goal.at.returns-in-Less-clause-first c).After-against_own in
    if_some_so c.take_own.result (λ d e.
    sym c.loop-c.invariant.same
    ∙ (own_first c.args.ring.now (ring_positive c.args.ring.now c.requires.ring) c.loop-c.self.sum.terms (drop c.loop-c.self.from c.args.f.now) (summed a)
    c.loop-c.invariant.rest.sum.canonical (own_canonical a) c.in-Some.ensures.first (term d c.take_own.new.out) (drop c.take_own.new.self.from c.args.f.now)
    (sym (compared_own a) ∙ c.in-Less.is) (ap (λ (r : Rest). drop r.from c.args.f.now) (sym c.summed_lead.ensures.same) ∙ e)
    ∙ ap (λ (b : Contents). term d c.take_own.new.out ∷ canonical c.args.ring.now (b.terms ++ drop c.take_own.new.self.from c.args.f.now))
    (sym (c.take_own.ensures.sum ∙ ap (λ (r : Rest). r.sum) c.summed_lead.ensures.same))))
    c.take_own.ensures.first

-- the polynomial's own term of the same monomial
abbrev own : After-term → Term
own c = term c.term.result.coefficient c.term.result.exponents.now

pub add-joined-requires-clause-left : goal.add-joined-requires-clause-left
add-joined-requires-clause-left c =
    (canonical_at c.args.ring.now 0 c.loop-c.self.sum.terms (summed (goal.at.add-joined-requires-clause-left c).After-against_own)
    c.loop-c.invariant.rest.sum.canonical c.in-Some.ensures.first).below

pub add-joined-requires-clause-right : goal.add-joined-requires-clause-right
add-joined-requires-clause-right c =
    (canonical_at c.args.ring.now c.summed_lead.new.self.from c.args.f.now (own (goal.at.add-joined-requires-clause-right c).After-term)
    c.requires.poly.canonical c.term.ensures).below

pub overflow_add-self : goal.overflow_add-self
overflow_add-self c =
    let within : c.summed_lead.new.self.from < length c.args.f.now =
    read_within c.args.f.now c.summed_lead.new.self.from (own (goal.at.overflow_add-self c).After-term) c.term.ensures in
    omega (arith, within, c.against_own.ensures.few)

-- the own term is the first that is left
own_read : (c : After-term) → slice_get (drop c.loop-c.self.from c.args.f.now) 0 ≡ Some (own c)
own_read c =
    ap (λ (r : Rest). slice_get (drop r.from c.args.f.now) 0) (sym c.summed_lead.ensures.same)
    ∙ (read_own c.args.f.now c.summed_lead.new.self.from ∙ c.term.ensures)

pub returns-then-number-ne0-clause-first : goal.returns-then-number-ne0-clause-first
returns-then-number-ne0-clause-first c =
    let a = (goal.at.returns-then-number-ne0-clause-first c).After-against_own in
    let t = (goal.at.returns-then-number-ne0-clause-first c).After-term in
    sym c.loop-c.invariant.same
    ∙ (both_first c.args.ring.now (ring_positive c.args.ring.now c.requires.ring) c.loop-c.self.sum.terms (drop c.loop-c.self.from c.args.f.now) (summed a)
    c.loop-c.invariant.rest.sum.canonical (own_canonical a) c.in-Some.ensures.first (own t) (own_read t) (sym (compared_own a) ∙ c.in-Equal.is)
    ∙ (stays c.args.ring.now (c.in-Some.c + c.term.result.coefficient) c.add-joined.result c.summed_lead.new.out _ c.add-joined.ensures.value
    (omega (arith, c.number.ensures, c.if-number-ne0.true))
    ∙ ap (λ k. term c.add-joined.result c.summed_lead.new.out ∷ k)
    (sym (behind_both c.args.ring.now c.loop-c.self c.summed_lead.new.self c.args.f.now c.drop_lead-in-Some.new.self.terms c.summed_lead.ensures.same
    c.drop_lead-in-Some.ensures.terms))))

pub loop-c-preserved : goal.loop-c-preserved
loop-c-preserved c =
    let a = (goal.at.loop-c-preserved c).After-against_own in
    let t = (goal.at.loop-c-preserved c).After-term in
    let within : c.summed_lead.new.self.from < length c.args.f.now = read_within c.args.f.now c.summed_lead.new.self.from (own t) c.term.ensures in
    let joined = both_first c.args.ring.now (ring_positive c.args.ring.now c.requires.ring) c.loop-c.self.sum.terms (drop c.loop-c.self.from c.args.f.now)
    (summed a) c.loop-c.invariant.rest.sum.canonical (own_canonical a) c.in-Some.ensures.first (own t) (own_read t) (sym (compared_own a) ∙ c.in-Equal.is) in
    record {
      same = behind_both c.args.ring.now c.loop-c.self c.summed_lead.new.self c.args.f.now c.drop_lead-in-Some.new.self.terms c.summed_lead.ensures.same
          c.drop_lead-in-Some.ensures.terms
          ∙ (sym (joined ∙ gone c.args.ring.now (c.in-Some.c + c.term.result.coefficient) c.add-joined.result c.summed_lead.new.out _
          c.add-joined.ensures.value (omega (arith, c.number.ensures, c.if-number-ne0.false)))
          ∙ c.loop-c.invariant.same);
      rest = record {
        same = c.drop_lead-in-Some.ensures.ring ∙ (ap (λ (r : Rest). r.sum.ring) c.summed_lead.ensures.same ∙ c.loop-c.invariant.rest.same);
        sum = subst (IsPoly c.args.ring.now)
            (sym (c.drop_lead-in-Some.ensures.terms ∙ ap (λ (r : Rest). drop 1 r.sum.terms) c.summed_lead.ensures.same))
            (poly_drop c.args.ring.now c.loop-c.self.sum.terms c.loop-c.invariant.rest.sum);
        from = omega (arith, within);
      };
      out = c.summed_lead.ensures.out ∙ c.loop-c.invariant.out;
    }

-- nothing is summed
alone : (c : After-take_own-2) → c.loop-c.self.sum.terms ≡ []
alone c = c.in_default.ensures.none refl

new_alone : (c : After-take_own-2) → c.take_own-2.new.self.sum.terms ≡ []
new_alone c =
    ap (λ (b : Contents). b.terms) (c.take_own-2.ensures.sum ∙ ap (λ (r : Rest). r.sum) c.summed_lead.ensures.same) ∙ alone c

pub returns-clause-first : goal.returns-clause-first
returns-clause-first c =
    let a = (goal.at.returns-clause-first c).After-take_own-2 in
    let ring = c.args.ring.now in
    let pos : 0 < c.args.ring.now.modulus = ring_positive c.args.ring.now c.requires.ring in
    let own = canonical_drop c.args.ring.now c.loop-c.self.from c.args.f.now c.requires.poly.canonical in
    if_some_so c.take_own-2.result (λ d e.
    let g = ap (λ (r : Rest). drop r.from c.args.f.now) (sym c.summed_lead.ensures.same) ∙ e in
    let h : IsCanonical c.args.ring.now (term d c.take_own-2.new.out ∷ drop c.take_own-2.new.self.from c.args.f.now) =
    subst (IsCanonical c.args.ring.now) g own in
    sym c.loop-c.invariant.same
    ∙ (nothing_summed ring c.loop-c.self.sum.terms (drop c.loop-c.self.from c.args.f.now) pos own (alone a)
    ∙ (g ∙ ap (λ k. term d c.take_own-2.new.out ∷ k)
    (sym (nothing_summed ring c.take_own-2.new.self.sum.terms (drop c.take_own-2.new.self.from c.args.f.now) pos h.4 (new_alone a))))))
    c.take_own-2.ensures.first
