use Rattle.std.proofs.Common.{ℕ, ◌≡◌, ◌-◌, ◌<◌, ◌++◌, length, take, drop, replicate, sym, ◌∙◌, subst, arith}
use Rattle.std.proofs.lemmas.Result.{IfOk-weaker}
use Rattle.cgs_field.proofs.PrimeLemmas.{modulus_field}
use Rattle.cgs_exps.specs.Monomial.{quotient}
use Rattle.cgs_exps.proofs.MonomialLemmas.{quotient_length}
use Rattle.cgs_poly.specs.Polynomial.{places, HasLowDegrees}
use Rattle.cgs_poly.specs.Product.{multiple}
use Rattle.cgs_poly.specs.Parameters.{lead_x}
use Rattle.cgs_poly.proofs.ProductLemmas.{low_any}
use Rattle.cgs_member.specs.ReductionRun.{lead_quotient}
use Rattle.cgs_member.proofs.RunLemmas.{divisor_some}
use Rattle.cgs_member.proofs.CongruenceLemmas.{lead_quotient_length, lead_x_long}
use Rattle.cgs_member.proofs.CancellingLemmas.{minus_one, quotient_places, moved}
use Rattle.cgs_member.proofs.cancelling.times_lead_quotient.Goals as goal
use Rattle.cgs_member.proofs.cancelling.times_lead_quotient.Goals.{After-sub_multiple}

some : (c : After-sub_multiple) → 0 < length c.args.b.now
some c = divisor_some c.args.ring.now c.args.b.now (lead_x c.args.ring.now c.args.f.now) c.requires.divides

long : (c : After-sub_multiple) → length (lead_quotient c.args.ring.now c.args.f.now c.args.b.now) ≡ places c.args.ring.now
long c = lead_quotient_length c.args.ring.now c.args.f.now c.args.b.now c.requires.poly.canonical c.requires.member.canonical c.requires.some (some c)

-- the monomial in the array
monomial_is : (c : After-sub_multiple)
    → take {A = ℕ} c.places.result (c.quotient_into.new.out ++ drop c.args.ring.now.variables (replicate 17 0))
    ≡ lead_quotient c.args.ring.now c.args.f.now c.args.b.now
monomial_is c =
    let v = lead_x_long c.args.ring.now c.args.f.now c.requires.poly.canonical c.requires.some in
    let w = lead_x_long c.args.ring.now c.args.b.now c.requires.member.canonical (some c) in
    let e : c.quotient_into.new.out ≡ quotient (lead_x c.args.ring.now c.args.f.now) (lead_x c.args.ring.now c.args.b.now) =
    cc (c.quotient_into.ensures, c.in-Some.ensures.exponents, c.in-Some-lead_x.ensures.exponents) in
    let l = quotient_length (lead_x c.args.ring.now c.args.f.now) (lead_x c.args.ring.now c.args.b.now) c.args.ring.now.variables v w in
    rw (e, c.places.ensures)
    (quotient_places (quotient (lead_x c.args.ring.now c.args.f.now) (lead_x c.args.ring.now c.args.b.now)) c.args.ring.now.variables
    c.args.ring.now.parameters 17 l (omega (arith, c.requires.ring.variables, c.requires.ring.parameters)))

minus : (c : After-sub_multiple) → c.neg-minus_one.result ≡ c.args.ring.now.modulus - 1
minus c =
    let two : 1 < c.args.ring.now.modulus = (modulus_field c.args.ring.now.modulus c.requires.ring.modulus).two in
    minus_one c.args.ring.now.modulus c.of_u64.result c.neg-minus_one.result two c.of_u64.ensures.value c.neg-minus_one.ensures.value

pub returns-clause-ok : goal.returns-clause-ok
returns-clause-ok c =
    let s = (goal.at.returns-clause-ok c).After-sub_multiple in
    IfOk-weaker c.sub_multiple.result _ _ (λ h e. e
    ∙ moved c.args.ring.now c.neg-minus_one.result c.zero-zero.result (lead_quotient c.args.ring.now c.args.f.now c.args.b.now) _ c.args.c.now c.requires.ring
    (minus s) c.zero-zero.ensures (monomial_is s) (long s) c.requires.coefficient.canonical) c.sub_multiple.ensures.difference

pub returns-clause-degree : goal.returns-clause-degree
returns-clause-degree c = λ e h.
    let s = (goal.at.returns-clause-degree c).After-sub_multiple in
    c.sub_multiple.ensures.degree.0 e
    (subst (λ t. HasLowDegrees (multiple c.neg-minus_one.result t c.args.c.now)) (sym (monomial_is s))
    (low_any 1 c.neg-minus_one.result (lead_quotient c.args.ring.now c.args.f.now c.args.b.now) c.args.c.now h))
