use Rattle.std.proofs.Common.{◌≡◌, ◌↔◌, IsTrue, false, length, take, replicate, subst, sym, arith}
use Rattle.std.proofs.lemmas.List.{length-take}
use Rattle.cgs_poly.specs.Polynomial.{term}
use Rattle.cgs_poly.specs.Parameters.{has_no_variables}
use Rattle.cgs_poly.proofs.PlaceLemmas.{canonical_at}
use Rattle.cgs_poly.proofs.ParameterLemmas.{test_exact, free_place, other_place, free_end}
use Rattle.cgs_poly.proofs.poly.Poly.has_no_variables.Goals as goal
use Rattle.cgs_poly.proofs.poly.Poly.has_no_variables.Goals.{After-are_zero, After-term}

-- the variables' exponents of the term
within : (c : After-term) → c.args.ring.now.variables ≡ length (take c.args.ring.now.variables c.term.result.exponents.now)
within c =
    let x = canonical_at c.args.ring.now c.loop-i.i c.args.self.now
    (term c.term.result.coefficient c.term.result.exponents.now) c.requires.canonical c.term.ensures in
    omega (arith, length-take c.args.ring.now.variables c.term.result.exponents.now, x.places)

told : (c : After-are_zero) → IsTrue c.are_zero.result ↔ (take c.args.ring.now.variables c.term.result.exponents.now ≡ replicate c.args.ring.now.variables 0)
told c =
    subst (λ n. IsTrue c.are_zero.result ↔ (take c.args.ring.now.variables c.term.result.exponents.now ≡ replicate n 0))
    (sym (within (goal.at.After-are_zero c).After-term)) c.are_zero.ensures

pub slice_bounds-are_zero-end : goal.slice_bounds-are_zero-end
slice_bounds-are_zero-end c = within (goal.at.slice_bounds-are_zero-end c).After-term

other : (c : After-are_zero) → c.are_zero.result ≡ false → false ≡ has_no_variables c.args.ring.now c.args.self.now
other c e =
    other_place c.args.ring.now c.args.self.now c.loop-i.i c.loop-i.invariant
    (term c.term.result.coefficient c.term.result.exponents.now) c.term.ensures (λ z. let t = (told c).1 z in cc)

pub returns-then-not-are_zero-clause-test : goal.returns-then-not-are_zero-clause-test
returns-then-not-are_zero-clause-test c = other (goal.at.returns-then-not-are_zero-clause-test c).After-are_zero c.if-not-are_zero.true

pub returns-then-not-are_zero-clause-exact : goal.returns-then-not-are_zero-clause-exact
returns-then-not-are_zero-clause-exact c =
    test_exact c.args.ring.now c.args.self.now false (other (goal.at.returns-then-not-are_zero-clause-exact c).After-are_zero c.if-not-are_zero.true)

pub loop-i-preserved : goal.loop-i-preserved
loop-i-preserved c =
    free_place c.args.ring.now c.args.self.now c.loop-i.i c.loop-i.invariant (term c.term.result.coefficient c.term.result.exponents.now) c.term.ensures
    ((told (goal.at.loop-i-preserved c).After-are_zero).0 c.if-not-are_zero.false)

pub returns-clause-exact : goal.returns-clause-exact
returns-clause-exact c = test_exact c.args.ring.now c.args.self.now _ (free_end c.args.ring.now c.args.self.now c.loop-i.i c.loop-i.invariant (omega arith))
