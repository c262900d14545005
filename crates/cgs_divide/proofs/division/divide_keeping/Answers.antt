use Rattle.std.proofs.Common.{List, Some, true, Err, ◌≡◌, ◌<◌, ◌≤◌, ◌-◌, ◌++◌, ℕ, [], ◌∷◌, length, get_or, set, take, drop, replicate}
use Rattle.std.proofs.Common.{refl, sym, ap, ◌∙◌, subst, arith}
use Rattle.std.specs.Prelude.{slice_get}
use Rattle.std.proofs.lemmas.List.{length-set, take_at}
use Rattle.cgs_exps.specs.Monomial.{degree, divides, quotient, product}
use Rattle.cgs_exps.proofs.MonomialLemmas.{quotient_length, quotient_product, degree_quotient}
use Rattle.cgs_poly.specs.Product.{multiple, leading_monomial, leading_coefficient}
use Rattle.cgs_poly.specs.Polynomial.{Term, HasLowDegrees, IsPoly, places, term, canonical}
use Rattle.cgs_poly.specs.Draft.{HaveLength}
use Rattle.cgs_poly.proofs.RingLemmas.{ring_positive}
use Rattle.cgs_poly.proofs.PlaceLemmas.{canonical_drop, canonical_length}
use Rattle.cgs_poly.proofs.CanonicalLemmas.{canonical_itself}
use Rattle.cgs_list.proofs.ListLemmas.{all_take, all_weaker, all_at_place}
use Rattle.cgs_bucket.specs.Levels.{Contents}
use Rattle.cgs_divide.specs.Rest.{left}
use Rattle.cgs_divide.specs.Tops.{top_behind_lead}
use Rattle.cgs_divide.proofs.RestLemmas.{left_poly}
use Rattle.cgs_divide.proofs.TailLemmas.{step_left, step_rest, tail_high, tail_not_high}
use Rattle.cgs_algebra.proofs.RepresentationLemmas.{lead_at_length}
use Rattle.cgs_divide.specs.Ending.{out_of_budget, out_of_degree}
use Rattle.cgs_divide.specs.DivisionRun.{first_divisor, undivided, done, keeping, divided, is_too_high, less_multiple}
use Rattle.cgs_divide.proofs.EndingLemmas.{passed_on, by_stop}
use Rattle.cgs_divide.proofs.QuotientLemmas.{divisor_divides, zeros, zeros_length}
use Rattle.cgs_divide.proofs.RunLemmas.{monic_some, divided_nothing}
use Rattle.cgs_divide.proofs.ResumedLemmas.{resumed_done, zeros_front, empty_at, front_set}
use Rattle.cgs_divide.proofs.UndividedLemmas.{kept_front, within_terms, within_limit}
use Rattle.cgs_divide.proofs.StepLemmas.{get_read, kept_step, kept_stop, taken_budget, taken_degree, taken_step, set_keeps, lengths_append}
use Rattle.cgs_divide.proofs.division.divide_keeping.Goals as goal
use Rattle.cgs_divide.proofs.division.divide_keeping.Goals.{In-Some, After-get-divisor, After-from_vec}
use Rattle.cgs_algebra.proofs.PlaceLemmas.{monic_at}

-- the terms that are kept whole

lengths_of : (p : ℕ) (m : List ℕ) (f : List Term) → HaveLength p f → length m ≡ p → HaveLength (length m) f
lengths_of p m f h e = subst (λ n. HaveLength n f) (sym e) h

pub undivided-before-requires-clause-lengths : goal.undivided-before-requires-clause-lengths
undivided-before-requires-clause-lengths c i l =
    lengths_of (places c.args.ring.now) _ c.args.f.now (canonical_length c.args.ring.now c.args.f.now c.requires.poly.canonical)
    (lead_at_length c.args.ring.now c.args.divisors.now (ring_positive c.args.ring.now c.requires.ring) c.requires.monic i l)

pub undivided-before-requires-clause-places : goal.undivided-before-requires-clause-places
undivided-before-requires-clause-places c =
    all_weaker (λ (x : Term). length x.exponents ≡ places c.args.ring.now) _ c.args.f.now
    (canonical_length c.args.ring.now c.args.f.now c.requires.poly.canonical)
    (λ x e. omega (arith, e, c.requires.ring.variables, c.requires.ring.parameters))

pub overflow_sub-fuel : goal.overflow_sub-fuel
overflow_sub-fuel c = omega (arith, c.undivided-before.ensures, within_limit c.args.fuel.now c.args.divisors.now c.args.f.now)

pub first_terms-requires : goal.first_terms-requires
first_terms-requires c = omega (arith, c.undivided-before.ensures, within_terms c.args.fuel.now c.args.divisors.now c.args.f.now)

pub loop-c-init : goal.loop-c-init
loop-c-init c =
    let k : ℕ = undivided c.args.fuel.now c.args.divisors.now c.args.f.now in
    let z : c.in_ok-quotients.quotients.items ≡ replicate c.args.kept [] = c.in_ok-quotients.ensures in
    let w = c.behind-rest.ensures in
    let pos : 0 < c.args.ring.now.modulus = ring_positive c.args.ring.now c.requires.ring in
    let from : c.behind-rest.result.from ≡ k = w.from ∙ c.undivided-before.ensures in
    let e : left c.args.ring.now c.behind-rest.result c.args.f.now ≡ drop k c.args.f.now =
    rw (w.sum, from) (canonical_itself c.args.ring.now (drop k c.args.f.now) pos (canonical_drop c.args.ring.now k c.args.f.now c.requires.poly.canonical)) in
    record {
      run = record {
        quotients = zeros c.args.divisors.now;
        run = rw (e, c.in_ok-remainder.ensures, c.undivided-before.ensures)
            (kept_front c.args.ring.now c.args.divisors.now c.requires.monic c.args.fuel.now c.args.f.now);
        kept = z ∙ zeros_front c.args.kept c.args.divisors.now c.requires.kept;
        places = zeros_length c.args.divisors.now;
      };
      rest = record {
        same = ap (λ (b : Contents). b.ring) w.sum;
        sum = rw w.sum (record { canonical = tt; low = tt });
        from = omega (arith, from, within_terms c.args.fuel.now c.args.divisors.now c.args.f.now);
      };
      remainder = rw c.in_ok-remainder.ensures
          (all_take (λ (x : Term). length x.exponents ≡ places c.args.ring.now) c.undivided-before.result c.args.f.now
          (canonical_length c.args.ring.now c.args.f.now c.requires.poly.canonical));
      units = omega arith;
      tops = c.in_ok-tops.ensures;
      lengths = λ i. rw (z, empty_at c.args.kept i) tt;
    }

-- the leading term that was taken
abbrev leading : In-Some → Term
leading c = term c.in-Some.c c.take_lead.new.out

leading_poly : (c : In-Some) → IsPoly c.args.ring.now (leading c ∷ left c.args.ring.now c.take_lead.new.self c.args.f.now)
leading_poly c =
    subst (IsPoly c.args.ring.now) c.in-Some.ensures.first
    (left_poly c.args.ring.now c.args.f.now c.loop-c.rest (ring_positive c.args.ring.now c.requires.ring) c.requires.poly c.loop-c.invariant.rest)

here : (c : In-Some) → slice_get (left c.args.ring.now c.loop-c.rest c.args.f.now) 0 ≡ Some (leading c)
here c = ap (λ k. slice_get k 0) c.in-Some.ensures.first

-- its monomial, as it stands in the room
abbrev seen : In-Some → List ℕ
seen c = take c.places-places.result (c.take_lead.new.out ++ drop c.places-places.result c.loop-c.room)

seen_is : (c : In-Some) → seen c ≡ c.take_lead.new.out
seen_is c = take_at c.take_lead.new.out (drop c.places-places.result c.loop-c.room) c.places-places.result
    (c.in-Some.ensures.out ∙ sym c.places-places.ensures)

pub first_divisor-requires-clause-lengths : goal.first_divisor-requires-clause-lengths
first_divisor-requires-clause-lengths c i l =
    let s = (goal.at.first_divisor-requires-clause-lengths c).In-Some in
    lead_at_length c.args.ring.now c.args.divisors.now (ring_positive c.args.ring.now c.requires.ring) c.requires.monic i l
    ∙ sym (ap length (seen_is s) ∙ c.in-Some.ensures.out)

-- the term goes to the remainder

none_divides : (c : In-Some) → length c.args.divisors.now ≤ first_divisor c.args.divisors.now (seen c)
    → length c.args.divisors.now ≤ first_divisor c.args.divisors.now c.take_lead.new.out
none_divides c h = subst (λ m. length c.args.divisors.now ≤ first_divisor c.args.divisors.now m) (seen_is c) h

pub returns-in_err-spend-in-None-clause-ends : goal.returns-in_err-spend-in-None-clause-ends
returns-in_err-spend-in-None-clause-ends c =
    let s = (goal.at.returns-in_err-spend-in-None-clause-ends c).In-Some in
    let stop = c.in_err-spend-in-None.ensures in
    passed_on _ _ c.in_err-spend-in-None.field-0.0 c.from_residual-in_err-spend-in-None.result c.from_residual-in_err-spend-in-None.ensures.1
    (by_stop _ _ c.in_err-spend-in-None.field-0.0
    (λ e. ap (keeping c.args.kept) (c.loop-c.invariant.run.run
    ∙ (kept_stop c.args.ring.now c.args.divisors.now c.requires.monic c.loop-c.invariant.run.quotients
    c.loop-c.fuel c.loop-c.remainder (left c.args.ring.now c.loop-c.rest c.args.f.now) (leading s) (here s)
    (none_divides s (c.in-None.ensures.none refl)) stop.budget.0
    ∙ ap out_of_budget (sym stop.budget.1))))
    (λ e. absurd (cc (e, stop.err))))

pub loop-c-preserved-in-Continue-branch-6 : goal.loop-c-preserved-in-Continue-branch-6
loop-c-preserved-in-Continue-branch-6 c =
    let paid = c.in_ok-spend-in-None.ensures.ok in
    let s = (goal.at.loop-c-preserved-in-Continue-branch-6 c).In-Some in
    let r = c.loop-c.invariant.run in
    let pushed : c.push.new.self ≡ c.loop-c.remainder ++ leading s ∷ [] =
    c.in_ok-push-in-None.ensures.ok ∙ ap (λ m. c.loop-c.remainder ++ term c.in-Some.c m ∷ []) (seen_is s) in
    let next : drop 1 (left c.args.ring.now c.loop-c.rest c.args.f.now) ≡ left c.args.ring.now c.take_lead.new.self c.args.f.now =
    ap (drop 1) c.in-Some.ensures.first in
    record {
      run = record {
        quotients = r.quotients;
        run = r.run
            ∙ (kept_step c.args.ring.now c.args.divisors.now c.requires.monic r.quotients c.loop-c.fuel c.loop-c.remainder
            (left c.args.ring.now c.loop-c.rest c.args.f.now) (leading s) (here s) (none_divides s (c.in-None.ensures.none refl)) paid.0
            ∙ rw (pushed, paid.1, next) refl);
        kept = r.kept;
        places = r.places;
      };
      rest = c.in-Some.ensures.rest;
      remainder = rw pushed
          (lengths_append (places c.args.ring.now) c.loop-c.remainder c.in-Some.c c.take_lead.new.out c.loop-c.invariant.remainder c.in-Some.ensures.out);
      units = omega (arith, paid.1, c.loop-c.invariant.units);
      tops = c.loop-c.invariant.tops;
      lengths = c.loop-c.invariant.lengths;
    }

-- the divisor at the place
divisor_is : (c : After-get-divisor) → get_or c.args.divisors.now c.in-Some-first_divisor.i [] ≡ c.get-divisor.result.now
divisor_is c = get_read c.args.divisors.now c.in-Some-first_divisor.i c.get-divisor.result.now [] c.get-divisor.ensures

divisor_monic : (c : After-get-divisor) → leading_coefficient c.get-divisor.result.now ≡ 1
divisor_monic c =
    subst (λ g. leading_coefficient g ≡ 1) (divisor_is c)
    (monic_at c.args.divisors.now c.requires.monic.monic c.in-Some-first_divisor.i c.in-Some-first_divisor.ensures.first.0)

divisor_some : (c : After-get-divisor) → 0 < length c.get-divisor.result.now
divisor_some c = monic_some c.get-divisor.result.now (divisor_monic c)

divisor_poly : (c : After-get-divisor) → IsPoly c.args.ring.now c.get-divisor.result.now
divisor_poly c =
    subst (IsPoly c.args.ring.now) (divisor_is c)
    (all_at_place (IsPoly c.args.ring.now) [] c.args.divisors.now c.requires.divisors c.in-Some-first_divisor.i c.in-Some-first_divisor.ensures.first.0)

divisor_divides_at : (c : After-get-divisor) (m : List ℕ) → first_divisor c.args.divisors.now m ≡ c.in-Some-first_divisor.i
    → divides (leading_monomial c.get-divisor.result.now) m ≡ true
divisor_divides_at c m f =
    let l : first_divisor c.args.divisors.now m < length c.args.divisors.now =
    subst (λ j. j < length c.args.divisors.now) (sym f) c.in-Some-first_divisor.ensures.first.0 in
    let d : divides (leading_monomial (get_or c.args.divisors.now c.in-Some-first_divisor.i [])) m ≡ true =
    subst (λ j. divides (leading_monomial (get_or c.args.divisors.now j [])) m ≡ true) f (divisor_divides c.args.divisors.now m l) in
    subst (λ g. divides (leading_monomial g) m ≡ true) (divisor_is c) d

-- the lead of the divisor is of the ring
lead_long : (c : After-get-divisor) → length (leading_monomial c.get-divisor.result.now) ≡ places c.args.ring.now
lead_long c =
    subst (λ g. length (leading_monomial g) ≡ places c.args.ring.now) (divisor_is c)
    (lead_at_length c.args.ring.now c.args.divisors.now (ring_positive c.args.ring.now c.requires.ring) c.requires.monic
    c.in-Some-first_divisor.i c.in-Some-first_divisor.ensures.first.0)

pub lead_quotient_into-requires-clause-some : goal.lead_quotient_into-requires-clause-some
lead_quotient_into-requires-clause-some c = divisor_some (goal.at.lead_quotient_into-requires-clause-some c).After-get-divisor

pub lead_quotient_into-requires-clause-same_places : goal.lead_quotient_into-requires-clause-same_places
lead_quotient_into-requires-clause-same_places c =
    let s = (goal.at.lead_quotient_into-requires-clause-same_places c).In-Some in
    lead_long (goal.at.lead_quotient_into-requires-clause-same_places c).After-get-divisor ∙ sym (ap length (seen_is s) ∙ c.in-Some.ensures.out)

pub lead_quotient_into-requires-clause-divides : goal.lead_quotient_into-requires-clause-divides
lead_quotient_into-requires-clause-divides c =
    divisor_divides_at (goal.at.lead_quotient_into-requires-clause-divides c).After-get-divisor
    (seen (goal.at.lead_quotient_into-requires-clause-divides c).In-Some) c.in-Some-first_divisor.ensures.first.1

pub reduce-requires-clause-positive : goal.reduce-requires-clause-positive
reduce-requires-clause-positive c = (leading_poly (goal.at.reduce-requires-clause-positive c).In-Some).canonical.0

pub reduce-requires-clause-below : goal.reduce-requires-clause-below
reduce-requires-clause-below c = (leading_poly (goal.at.reduce-requires-clause-below c).In-Some).canonical.1

pub reduce-requires-clause-low : goal.reduce-requires-clause-low
reduce-requires-clause-low c =
    let s = (goal.at.reduce-requires-clause-low c).In-Some in
    let d = (goal.at.reduce-requires-clause-low c).After-get-divisor in
    let g : List Term = c.get-divisor.result.now in
    let same : length (seen s) ≡ length (leading_monomial g) = ap length (seen_is s) ∙ (c.in-Some.ensures.out ∙ sym (lead_long d)) in
    let less = degree_quotient (seen s) (leading_monomial g) same (divisor_divides_at d (seen s) c.in-Some-first_divisor.ensures.first.1) in
    omega (arith, less, ap degree c.lead_quotient_into.ensures, ap degree (seen_is s), (leading_poly s).low.0)

pub reduce-requires-clause-top : goal.reduce-requires-clause-top
reduce-requires-clause-top c =
    c.top-top.ensures.top ∙ ap top_behind_lead (divisor_is (goal.at.reduce-requires-clause-top c).After-get-divisor)

pub top-top-requires-clause-known : goal.top-top-requires-clause-known
top-top-requires-clause-known c = c.loop-c.invariant.tops

pub reduce-requires-clause-divisor : goal.reduce-requires-clause-divisor
reduce-requires-clause-divisor c = divisor_poly (goal.at.reduce-requires-clause-divisor c).After-get-divisor

pub reduce-requires-clause-some : goal.reduce-requires-clause-some
reduce-requires-clause-some c = divisor_some (goal.at.reduce-requires-clause-some c).After-get-divisor

-- it is the first whose lead divides the term
first_is : (s : In-Some) (i : ℕ) → first_divisor s.args.divisors.now (seen s) ≡ i → first_divisor s.args.divisors.now s.take_lead.new.out ≡ i
first_is s i h = subst (λ m. first_divisor s.args.divisors.now m ≡ i) (seen_is s) h

-- the monomial of the step
step_is : (s : In-Some) (g : List Term) (t : List ℕ) → t ≡ quotient (seen s) (leading_monomial g) → t ≡ quotient s.take_lead.new.out (leading_monomial g)
step_is s g t h = h ∙ ap (λ m. quotient m (leading_monomial g)) (seen_is s)

-- a stop of the step is one of the run

pub returns-in_err-reduce-in-Some-first_divisor-clause-ends : goal.returns-in_err-reduce-in-Some-first_divisor-clause-ends
returns-in_err-reduce-in-Some-first_divisor-clause-ends c =
    let f = c.in-Some-first_divisor.ensures.first in
    let x = (goal.at.returns-in_err-reduce-in-Some-first_divisor-clause-ends c).In-Some in
    let d = (goal.at.returns-in_err-reduce-in-Some-first_divisor-clause-ends c).After-get-divisor in
    let g : List Term = c.get-divisor.result.now in
    let t : List ℕ = c.lead_quotient_into.new.out in
    let first = first_is x c.in-Some-first_divisor.i f.1 in
    passed_on _ _ c.in_err-reduce-in-Some-first_divisor.field-0.0 c.from_residual-in_err-reduce-in-Some-first_divisor.result
    c.from_residual-in_err-reduce-in-Some-first_divisor.ensures.1
    (by_stop _ _ c.in_err-reduce-in-Some-first_divisor.field-0.0
    (λ e.
    let h = c.in_err-reduce-in-Some-first_divisor.ensures.budget (ap Err e) in
    ap (keeping c.args.kept) (c.loop-c.invariant.run.run
    ∙ (taken_budget c.args.ring.now c.args.divisors.now c.requires.monic c.loop-c.invariant.run.quotients c.loop-c.fuel c.loop-c.remainder
    (left c.args.ring.now c.loop-c.rest c.args.f.now) (leading x) (here x) c.in-Some-first_divisor.i g first f.0 (divisor_is d) h.0
    ∙ ap out_of_budget (sym h.1))))
    (λ e.
    let h = c.in_err-reduce-in-Some-first_divisor.ensures.degree (ap Err e) in
    let high : is_too_high (multiple c.in-Some.c t g) ≡ true = tail_high c.in-Some.c (c.args.ring.now.modulus - c.in-Some.c) t g h.2 in
    ap (keeping c.args.kept) (c.loop-c.invariant.run.run
    ∙ (taken_degree c.args.ring.now c.args.divisors.now c.requires.monic c.loop-c.invariant.run.quotients c.loop-c.fuel c.loop-c.remainder
    (left c.args.ring.now c.loop-c.rest c.args.f.now) (leading x) (here x) c.in-Some-first_divisor.i g first f.0 (divisor_is d) h.0
    (subst (λ n. is_too_high (multiple c.in-Some.c n g) ≡ true) (step_is x g t c.lead_quotient_into.ensures) high)
    ∙ ap out_of_degree (sym h.1)))))

-- a step that is done

pub loop-c-smaller : goal.loop-c-smaller
loop-c-smaller c =
    let paid = c.in_ok-reduce-in-Some-first_divisor.ensures.paid in
    let s : 0 < length c.get-divisor.result.now = divisor_some (goal.at.loop-c-smaller c).After-get-divisor in
    omega (arith, paid.0, paid.1, s)

pub loop-c-preserved : goal.loop-c-preserved
loop-c-preserved c =
    let step = c.in_ok-reduce-in-Some-first_divisor.ensures in
    let f = c.in-Some-first_divisor.ensures.first in
    let s = (goal.at.loop-c-preserved c).In-Some in
    let d = (goal.at.loop-c-preserved c).After-get-divisor in
    let x : Term = leading s in
    let g : List Term = c.get-divisor.result.now in
    let t : List ℕ = quotient c.take_lead.new.out (leading_monomial c.get-divisor.result.now) in
    let y : Term = term c.in-Some.c t in
    let i : ℕ = c.in-Some-first_divisor.i in
    let r = c.loop-c.invariant.run in
    let ring = c.args.ring.now in
    let pos : 0 < c.args.ring.now.modulus = ring_positive c.args.ring.now c.requires.ring in
    let p = leading_poly s in
    let place = divisor_is d in
    let first = first_is s c.in-Some-first_divisor.i f.1 in
    let t_is = step_is s c.get-divisor.result.now c.lead_quotient_into.new.out c.lead_quotient_into.ensures in
    let items : List (List Term) = c.loop-c.quotients.items in
    let now = c.in_ok-keep_term-in-Some-first_divisor.ensures ∙ ap (λ n. set items i (get_or items i [] ++ term c.in-Some.c n ∷ [])) t_is in
    let long : length t ≡ places c.args.ring.now =
    quotient_length c.take_lead.new.out (leading_monomial g) (places c.args.ring.now) c.in-Some.ensures.out (lead_long d) in
    let back : product t (leading_monomial g) ≡ c.take_lead.new.out =
    quotient_product c.take_lead.new.out (leading_monomial g) (c.in-Some.ensures.out ∙ sym (lead_long d)) (divisor_divides_at d c.take_lead.new.out first) in
    let behind = subst (λ n. HasLowDegrees (multiple (c.args.ring.now.modulus - c.in-Some.c) n (drop 1 c.get-divisor.result.now))) t_is step.low in
    let sum = step.sum ∙ ap (λ n. canonical c.args.ring.now
    (c.take_lead.new.self.sum.terms ++ multiple (c.args.ring.now.modulus - c.in-Some.c) n (drop 1 c.get-divisor.result.now))) t_is in
    let next : left c.args.ring.now c.reduce.new.rest c.args.f.now ≡ less_multiple c.args.ring.now (left c.args.ring.now c.loop-c.rest c.args.f.now)
    c.in-Some.c (quotient c.take_lead.new.out (leading_monomial c.get-divisor.result.now)) c.get-divisor.result.now =
    step_left ring c.args.f.now g c.take_lead.new.self c.reduce.new.rest c.in-Some.c t pos c.requires.poly c.in-Some.ensures.rest (divisor_poly d) long
    step.from sum c.take_lead.new.out (divisor_some d) (divisor_monic d) back p.canonical.1 c.in-Some.ensures.out
    ∙ ap (λ k. less_multiple ring k c.in-Some.c t g) (sym c.in-Some.ensures.first) in
    let low = tail_not_high c.in-Some.c (ring.modulus - c.in-Some.c) c.take_lead.new.out t g (divisor_some d) back p.low.0 behind in
    record {
      run = record {
        quotients = set r.quotients i (get_or r.quotients i [] ++ y ∷ []);
        run = rw step.paid.1 (r.run
            ∙ taken_step c.args.ring.now c.args.divisors.now c.requires.monic r.quotients c.loop-c.fuel c.loop-c.remainder
            (left c.args.ring.now c.loop-c.rest c.args.f.now) x (here s) i g first f.0 place
            (left c.args.ring.now c.reduce.new.rest c.args.f.now) next step.paid.0 low);
        kept = now ∙ (ap (λ K. set K i (get_or K i [] ++ y ∷ [])) r.kept ∙ front_set c.args.kept i r.quotients y);
        places = length-set r.quotients i (get_or r.quotients i [] ++ y ∷ []) ∙ r.places;
      };
      rest = step_rest ring c.args.f.now g c.take_lead.new.self c.reduce.new.rest c.in-Some.c t pos c.requires.poly c.in-Some.ensures.rest (divisor_poly d) long
          step.from sum step.ring behind;
      remainder = c.loop-c.invariant.remainder;
      units = omega (arith, step.paid.1, c.loop-c.invariant.units);
      tops = c.top-top.ensures.known;
      lengths =
          λ j. rw now
          (set_keeps (λ q. HaveLength (places c.args.ring.now) q) items i _ j (c.loop-c.invariant.lengths j)
          (lengths_append (places c.args.ring.now) (get_or items i []) c.in-Some.c t (c.loop-c.invariant.lengths i) long));
    }

-- nothing is left

nothing_left : (c : After-from_vec) → left c.args.ring.now c.loop-c.rest c.args.f.now ≡ []
nothing_left c = c.in_default.ensures.none refl

pub returns-clause-ends : goal.returns-clause-ends
returns-clause-ends c =
    let r = c.loop-c.invariant.run in
    let whole : divided c.args.ring.now c.args.divisors.now c.args.fuel.now c.args.f.now ≡ done c.loop-c.remainder r.quotients c.loop-c.fuel =
    r.run
    ∙ rw (
      nothing_left (goal.at.returns-clause-ends c).After-from_vec,
      divided_nothing c.args.ring.now c.args.divisors.now c.requires.monic c.loop-c.fuel,
    )
    (resumed_done c.loop-c.remainder r.quotients c.args.divisors.now c.loop-c.fuel r.places) in
    ap (keeping c.args.kept) whole ∙ ap (λ Q. done c.loop-c.remainder Q c.loop-c.fuel) (sym (c.from_vec.ensures ∙ r.kept))
