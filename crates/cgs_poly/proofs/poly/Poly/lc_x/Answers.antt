use Rattle.std.proofs.Common.{ℕ, ◌≡◌, ◌≤◌, ◌+◌, ◌++◌, length, take, replicate, arith, sym, ap, ◌∙◌, subst}
use Rattle.std.proofs.lemmas.List.{length-replicate, take_all, take-replicate}
use Rattle.std.proofs.lemmas.Bool.Decides.{Decides-eqb}
use Rattle.std.proofs.lemmas.Slice.Eq.{slice_eq-Decides}
use Rattle.cgs_poly.specs.Polynomial.{term, coefficient, IsPoly}
use Rattle.cgs_poly.specs.Parameters.{lead_x, lc_x, part_at, strip, HasNoVariables}
use Rattle.cgs_poly.proofs.CanonicalLemmas.{canonical_of_ring}
use Rattle.cgs_poly.proofs.PlaceLemmas.{canonical_at}
use Rattle.cgs_poly.proofs.ParameterLemmas.{HoldsPart, part_pushed, part_kept, lead_first, lc_x_poly, lc_x_free, lc_x_coefficient}
use Rattle.cgs_poly.proofs.poly.Poly.lc_x.Goals as goal
use Rattle.cgs_poly.proofs.poly.Poly.lc_x.Goals.{then-eq+in_ok-push_parts, else-eq, After-finish}

pub split_at-requires : goal.split_at-requires
split_at-requires c =
    let x = canonical_at c.args.ring.now 0 c.args.f.now (term c.term.result.coefficient c.term.result.exponents.now) c.requires.poly.canonical c.term.ensures in
    omega (arith, x.places)

pub split_at-requires-in-loop-i : goal.split_at-requires-in-loop-i
split_at-requires-in-loop-i c =
    let x = canonical_at c.args.ring.now c.loop-i.i c.args.f.now (term c.term-term.result.coefficient c.term-term.result.exponents.now)
    c.requires.poly.canonical c.term-term.ensures in
    omega (arith, x.places)

zeros_are : (n : ℕ) → n ≤ 17 → take {A = ℕ} n (replicate 17 0) ≡ replicate n 0
zeros_are n l = take-replicate n 17 0 l

pub push_parts-requires-clause-places : goal.push_parts-requires-clause-places
push_parts-requires-clause-places c =
    let x = canonical_at c.args.ring.now c.loop-i.i c.args.f.now (term c.term-term.result.coefficient c.term-term.result.exponents.now)
    c.requires.poly.canonical c.term-term.ensures in
    let few : c.args.ring.now.variables ≤ 17 = omega (arith, c.requires.ring.variables) in
    omega (
      arith,
      x.places,
      ap length (zeros_are c.args.ring.now.variables few),
      length-replicate {A = ℕ} c.args.ring.now.variables 0,
      c.split_at-in-loop-i.ensures.back_len,
      c.loop-i.invariant.places,
    )

pub loop-i-preserved : goal.loop-i-preserved
loop-i-preserved c =
    let few : c.args.ring.now.variables ≤ 17 = omega (arith, c.requires.ring.variables) in
    let same = slice_eq-Decides Decides-eqb c.split_at-in-loop-i.result.0.now c.split_at.result.0.now c.eq.result c.eq.ensures in
    elim c.if-eq.branch [
      | then-eq+in_ok-push_parts w ↦
          subst (λ d. HoldsPart c.args.ring.now c.split_at.result.0.now (take (c.loop-i.i + 1) c.args.f.now) d) (sym w.part-is)
          (part_pushed c.args.ring.now c.split_at.result.0.now c.args.f.now c.loop-i.i c.term-term.result.coefficient
          c.term-term.result.exponents.now c.term-term.ensures c.loop-i.part w.push_parts.new.self _ _ w.in_ok-push_parts.ensures
          (zeros_are c.args.ring.now.variables few) c.split_at-in-loop-i.ensures.back
          (sym c.split_at-in-loop-i.ensures.front ∙ same.0 w.if-eq.true) c.loop-i.invariant)
      | else-eq w ↦
          subst (λ d. HoldsPart c.args.ring.now c.split_at.result.0.now (take (c.loop-i.i + 1) c.args.f.now) d) (sym w.part-is)
          (part_kept c.args.ring.now c.split_at.result.0.now c.args.f.now c.loop-i.i c.term-term.result.coefficient
          c.term-term.result.exponents.now c.term-term.ensures c.loop-i.part
          (λ e. let t = same.1 (c.split_at-in-loop-i.ensures.front ∙ e) in cc (t, w.if-eq.false)) c.loop-i.invariant)
    ]

-- the answer is the leading part
answer : (c : After-finish) → c.finish.result ≡ lc_x c.args.ring.now c.args.f.now
answer c =
    let a : take c.loop-i.i c.args.f.now ≡ c.args.f.now = take_all c.loop-i.i c.args.f.now (omega (arith, c.len-i-end.ensures, c.loop-i-test.false)) in
    let b : c.split_at.result.0.now ≡ lead_x c.args.ring.now c.args.f.now =
    c.split_at.ensures.front
    ∙ ap (take c.args.ring.now.variables) (sym (lead_first c.args.f.now (term c.term.result.coefficient c.term.result.exponents.now) c.term.ensures)) in
    c.finish.ensures
    ∙ (c.loop-i.invariant.terms
    ∙ (ap (λ f. strip c.args.ring.now (part_at c.args.ring.now c.split_at.result.0.now f)) a
    ∙ ap (λ x. strip c.args.ring.now (part_at c.args.ring.now x c.args.f.now)) b))

pub returns-clause-poly : goal.returns-clause-poly
returns-clause-poly c = subst (λ h. IsPoly c.args.ring.now h) (sym (answer c)) (lc_x_poly c.args.ring.now c.args.f.now c.requires.poly)

pub returns-clause-free : goal.returns-clause-free
returns-clause-free c = subst (λ h. HasNoVariables c.args.ring.now h) (sym (answer c)) (lc_x_free c.args.ring.now c.args.f.now)

pub returns-clause-coefficients : goal.returns-clause-coefficients
returns-clause-coefficients c = λ u l.
    ap (λ h. coefficient c.args.ring.now.modulus h (replicate c.args.ring.now.variables 0 ++ u)) (answer c)
    ∙ lc_x_coefficient c.args.ring.now c.args.f.now u (canonical_of_ring c.args.ring.now c.args.f.now c.requires.poly.canonical) l
