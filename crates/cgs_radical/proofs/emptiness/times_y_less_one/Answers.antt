use Rattle.std.proofs.Common.{ℕ, ◌≡◌, ◌-◌, ◌<◌, [], ◌∷◌, ◌++◌, length, replicate, take, sym, ap, ◌∙◌, subst, arith}
use Rattle.std.proofs.lemmas.List.{length-replicate}
use Rattle.std.proofs.lemmas.Result.{IfOk-weaker, on_ok_weaker}
use Rattle.cgs_field.proofs.PrimeLemmas.{modulus_field}
use Rattle.cgs_poly.specs.Polynomial.{term, places, canonical, HasLowDegrees}
use Rattle.cgs_poly.specs.Product.{multiple}
use Rattle.cgs_poly.proofs.CanonicalLemmas.{canonical_of_ring}
use Rattle.cgs_poly.proofs.ProductLemmas.{low_any}
use Rattle.cgs_radical.proofs.TestLemmas.{y_places, minus_one, swapped}
use Rattle.cgs_radical.proofs.emptiness.times_y_less_one.Goals as goal

pub returns-clause-ok : goal.returns-clause-ok
returns-clause-ok c =
    let two : 1 < c.args.ring.now.modulus = (modulus_field c.args.ring.now.modulus c.requires.ring.modulus).two in
    let m = y_places c.args.ring.now c.places.result c.requires.ring c.requires.one_variable c.places.ensures in
    let k : c.neg-minus_one.result ≡ c.args.ring.now.modulus - 1 =
    minus_one c.args.ring.now.modulus c.of_u64.result c.neg-minus_one.result two c.of_u64.ensures.value c.neg-minus_one.ensures.value in
    let d : c.args.ring.now.modulus - c.neg-minus_one.result ≡ 1 = omega (arith, k, two) in
    let v = c.requires.one_variable in
    let l : length (1 ∷ replicate {A = ℕ} c.args.ring.now.parameters 0) ≡ places c.args.ring.now =
    omega (arith, length-replicate {A = ℕ} c.args.ring.now.parameters 0, v) in
    IfOk-weaker c.sub_multiple.result _ _
    (λ f e.
    e
    ∙ (ap (λ L. canonical c.args.ring.now
    (L ++ multiple (c.args.ring.now.modulus - c.neg-minus_one.result) (take {A = ℕ} c.places.result (1 ∷ replicate 16 0)) c.args.q.now)) c.in_ok-last.ensures.ok
    ∙ (ap (λ y. canonical c.args.ring.now
    (term c.neg-minus_one.result (replicate (places c.args.ring.now) 0) ∷ [] ++ multiple (c.args.ring.now.modulus - c.neg-minus_one.result) y c.args.q.now)) m
    ∙ swapped c.args.ring.now c.neg-minus_one.result (c.args.ring.now.modulus - c.neg-minus_one.result)
    (1 ∷ replicate c.args.ring.now.parameters 0) (replicate (places c.args.ring.now) 0) c.args.q.now (omega (arith, two)) k d l
    (length-replicate {A = ℕ} (places c.args.ring.now) 0) (canonical_of_ring c.args.ring.now c.args.q.now c.requires.poly.canonical))))
    c.sub_multiple.ensures.difference

pub returns-clause-low : goal.returns-clause-low
returns-clause-low c =
    let m = y_places c.args.ring.now c.places.result c.requires.ring c.requires.one_variable c.places.ensures in
    on_ok_weaker c.sub_multiple.result
    (λ h. low_any c.neg-minus_one.result 1 (1 ∷ replicate c.args.ring.now.parameters 0) c.args.q.now
    (subst (λ y. HasLowDegrees (multiple c.neg-minus_one.result y c.args.q.now)) m h))
    c.sub_multiple.ensures.low

pub returns-clause-degree : goal.returns-clause-degree
returns-clause-degree c = λ e h.
    let m = y_places c.args.ring.now c.places.result c.requires.ring c.requires.one_variable c.places.ensures in
    c.sub_multiple.ensures.degree.0 e
    (subst (λ y. HasLowDegrees (multiple c.neg-minus_one.result y c.args.q.now)) (sym m)
    (low_any 1 c.neg-minus_one.result (1 ∷ replicate c.args.ring.now.parameters 0) c.args.q.now h))
