use Rattle.std.proofs.Common.{◌++◌, ℕ, List, ◌≡◌, inl, inr, false, ap, ◌∙◌, sym, subst}
use Rattle.cgs_canonical.specs.Printing.{power_text, powers_text, following, AppendsFront}
use Rattle.cgs_canonical.proofs.PrintLemmas.{leaves_all, leaves_equal, leaves_none, front_of_piece, at_exit}
use Rattle.cgs_canonical.proofs.PrintedPowerLemmas.{separator, power_is_next, power_is_left_out, no_power_is_next}
use Rattle.cgs_canonical.proofs.polynomial.powers_text.Goals as goal
use Rattle.cgs_canonical.proofs.polynomial.powers_text.Goals.{then-bare, else-bare}

pub loop-name-init : goal.loop-name-init
loop-name-init c =
    let names : c.into_iter-name-iterator.result.a.rest.now ≡ c.args.names.now = cc in
    let exponents : c.into_iter-name-iterator.result.b.rest.now ≡ c.args.exponents.now = cc in
    let all : following c.args.bare (powers_text c.args.names.now c.args.exponents.now)
    ≡ following c.args.bare (powers_text c.into_iter-name-iterator.result.a.rest.now c.into_iter-name-iterator.result.b.rest.now) = cc in
    leaves_equal _ (leaves_all _ _) all

pub returns-in_err-power_text : goal.returns-in_err-power_text
returns-in_err-power_text c =
    let names : List (List ℕ) = c.next.new.self.a.rest.now in
    let exponents = c.next.new.self.b.rest.now in
    let name : List ℕ = c.in-Some.name.now in
    let exponent = c.in-Some.exponent.now in
    let printed : c.if-bare.separator.now ≡ separator c.loop-name.bare =
    elim c.if-bare.branch [
      | then-bare w ↦ ap (λ b. b.now) w.separator-is ∙ sym (ap separator w.if-bare.true)
      | else-bare w ↦ ap (λ b. b.now) w.separator-is ∙ sym (ap separator w.if-bare.false)
    ] in
    let piece = separator c.loop-name.bare ++ power_text name exponent in
    let next = power_is_next c.loop-name.bare name exponent names exponents c.if-exponent-gt0.true in
    let left : following c.loop-name.bare (powers_text c.loop-name.name-iterator.a.rest.now c.loop-name.name-iterator.b.rest.now)
    ≡ piece ++ following false (powers_text names exponents) =
    cc (next, c.in-Some.ensures.steps.0, c.in-Some.ensures.steps.1) in
    let text : c.if-bare.separator.now ++ power_text c.as_slice.result.now exponent ≡ piece = cc (printed, c.as_slice.ensures) in
    at_exit _ _ _ _ c.from_residual.ensures.0
    (front_of_piece piece (following false (powers_text names exponents)) (leaves_equal _ c.loop-name.invariant left)
    (subst (AppendsFront c.loop-name.out c.power_text.new.out) text c.in_err-power_text.ensures))

pub loop-name-preserved : goal.loop-name-preserved
loop-name-preserved c =
    let left_out = power_is_left_out c.in-Some.name.now c.in-Some.exponent.now c.next.new.self.a.rest.now c.next.new.self.b.rest.now c.if-exponent-gt0.false in
    leaves_equal _ c.loop-name.invariant (cc (left_out, c.in-Some.ensures.steps.0, c.in-Some.ensures.steps.1))

pub returns : goal.returns
returns c =
    leaves_none (leaves_equal _ c.loop-name.invariant
    (no_power_is_next c.loop-name.bare _ _ (elim c.in-None.ensures.steps [ inl p ↦ inl p.1.0 | inr p ↦ inr p.1.0 ])))
