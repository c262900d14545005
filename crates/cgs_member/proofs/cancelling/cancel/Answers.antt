use Rattle.std.proofs.Common.{Err, ◌≡◌, ◌<◌, ◌-◌, List, ◌++◌, sym, ap, ◌∙◌, subst}
use Rattle.std.proofs.lemmas.Result.{err_from_is_err_and}
use Rattle.cgs_field.proofs.PrimeLemmas.{modulus_field}
use Rattle.cgs_poly.specs.Polynomial.{Term, IsPoly, HasLowDegrees, canonical}
use Rattle.cgs_poly.specs.Product.{scaled, multiple, all_products}
use Rattle.cgs_poly.specs.Parameters.{lead_x, lc_x}
use Rattle.cgs_poly.proofs.CanonicalLemmas.{canonical_of_ring}
use Rattle.cgs_poly.proofs.ProductLemmas.{multiple_of_ring}
use Rattle.cgs_poly.specs.declared.fault.PolyFault.TheVariants as fault
use Rattle.cgs_poly.proofs.ParameterLemmas.{lc_x_poly}
use Rattle.cgs_member.specs.ReductionRun.{lead_quotient}
use Rattle.cgs_member.proofs.RunLemmas.{divisor_some}
use Rattle.cgs_member.proofs.CongruenceLemmas.{lead_quotient_length}
use Rattle.cgs_member.proofs.StepLemmas.{low_first_factor}
use Rattle.cgs_member.proofs.CancellingLemmas.{minus_one, cancelled_is}
use Rattle.cgs_member.proofs.cancelling.cancel.Goals as goal

pub times_lead_quotient-requires-clause-coefficient : goal.times_lead_quotient-requires-clause-coefficient
times_lead_quotient-requires-clause-coefficient c =
    subst (IsPoly c.args.ring.now) (sym c.requires.second) (lc_x_poly c.args.ring.now c.args.f.now c.requires.poly)

pub product-requires-clause-first : goal.product-requires-clause-first
product-requires-clause-first c =
    subst (IsPoly c.args.ring.now) (sym c.requires.first) (lc_x_poly c.args.ring.now c.args.b.now c.requires.member)

pub returns-in_err-lifted-clause-degree : goal.returns-in_err-lifted-clause-degree
returns-in_err-lifted-clause-degree c = λ e low.
    let ring = c.args.ring.now in
    let f : List Term = c.args.f.now in
    let b : List Term = c.args.b.now in
    let some = divisor_some ring b (lead_x ring f) c.requires.divides in
    let t = lead_quotient_length ring f b c.requires.poly.canonical c.requires.member.canonical c.requires.some some in
    let k = err_from_is_err_and c.from_residual.result c.from_residual.ensures.1 in
    let same : Err k.0 ≡ Err fault.Degree = sym k.1 ∙ e in
    let degree : c.in_err-lifted.field-0.0 ≡ fault.Degree = cc (k.2, same) in
    let of_ring = multiple_of_ring ring 1 (lead_quotient ring f b) (lc_x ring f) t
    (canonical_of_ring ring (lc_x ring f) (lc_x_poly ring f c.requires.poly).canonical) in
    c.in_err-lifted.ensures.degree (ap Err degree)
    (subst (λ g. HasLowDegrees (multiple 1 (lead_quotient ring f b) g)) (sym c.requires.second)
    (low_first_factor ring (multiple 1 (lead_quotient ring f b) (lc_x ring f)) b of_ring (canonical_of_ring ring b c.requires.member.canonical) some low.1))

pub returns-clause-ok : goal.returns-clause-ok
returns-clause-ok c =
    let b_some = divisor_some c.args.ring.now c.args.b.now (lead_x c.args.ring.now c.args.f.now) c.requires.divides in
    let two : 1 < c.args.ring.now.modulus = (modulus_field c.args.ring.now.modulus c.requires.ring.modulus).two in
    let k : c.neg-minus_one.result ≡ c.args.ring.now.modulus - 1 =
    minus_one c.args.ring.now.modulus c.of_u64.result c.neg-minus_one.result two c.of_u64.ensures.value c.neg-minus_one.ensures.value in
    let first = c.in_ok-first.ensures.product ∙ ap (λ d. canonical c.args.ring.now (all_products d c.args.f.now)) c.requires.first in
    let lifted = c.in_ok-lifted.ensures.ok ∙ ap (multiple 1 (lead_quotient c.args.ring.now c.args.f.now c.args.b.now)) c.requires.second in
    let second = c.in_ok-second.ensures.product ∙ ap (λ d. canonical c.args.ring.now (all_products d c.args.b.now)) lifted in
    let negated = c.in_ok-negated.ensures.multiple ∙ (ap (λ n. canonical c.args.ring.now (scaled n c.in_ok-second.second)) k
    ∙ ap (λ g. canonical c.args.ring.now (scaled (c.args.ring.now.modulus - 1) g)) second) in
    c.in_ok-rest.ensures.sum ∙ (ap (λ g. canonical c.args.ring.now (g ++ c.in_ok-negated.negated)) first
    ∙ (ap (λ g. canonical c.args.ring.now (canonical c.args.ring.now (all_products (lc_x c.args.ring.now c.args.b.now) c.args.f.now) ++ g)) negated
    ∙ cancelled_is c.args.ring.now c.args.f.now c.args.b.now c.requires.ring c.requires.poly.canonical c.requires.member.canonical c.requires.some b_some))
