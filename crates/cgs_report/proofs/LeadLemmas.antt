-- The variables' parts of the leading monomials of a list of polynomials.
use Rattle.std.proofs.Common.{ℕ, ◌≡◌, ◌+◌, ◌<◌, ◌≤◌, ◌||◌, Bool, true, false, Option, Some, None, List, [], ◌∷◌, length, drop, get_or, refl, sym, ap, ◌∙◌}
use Rattle.std.proofs.Common.{arith}
use Rattle.std.specs.List.{AllByRecursion, list_any}
use Rattle.std.proofs.lemmas.List.{length-take-le, get_or-take, drop_more}
use Rattle.std.proofs.lemmas.List.Sums.{get_or-le-sum_by}
use Rattle.cgs_exps.specs.Monomial.{degree}
use Rattle.cgs_poly.specs.Ring.{Ring}
use Rattle.cgs_poly.specs.Polynomial.{Term, ArePolys, greatest_degree}
use Rattle.cgs_report.specs.Standard.{leads_x, has_divisor}
use Rattle.cgs_report.specs.Box.{is_power, has_power, least_power, side}
use Rattle.cgs_report.specs.Laws.{HavePlaces}
use Rattle.cgs_report.specs.Walk.{lead_divides, lead_is_power}

pub leads_places : (ring : Ring) (G : List (List Term)) → ArePolys ring G → HavePlaces ring.variables (leads_x ring G)
leads_places ring [] h = tt
leads_places ring ([] ∷ G) h = leads_places ring G h.1
leads_places ring ((y ∷ f) ∷ G) h = (length-take-le ring.variables y.exponents (let e = h.0.canonical.2 in omega (arith, e)), leads_places ring G h.1)

pub leads_low : (ring : Ring) (i : ℕ) (G : List (List Term)) → i < ring.variables → ArePolys ring G
    → AllByRecursion (λ l. get_or l i 0 ≤ greatest_degree) (leads_x ring G)
leads_low ring i [] l h = tt
leads_low ring i ([] ∷ G) l h = leads_low ring i G l h.1
leads_low ring i ((y ∷ f) ∷ G) l h =
    let a = get_or-take ring.variables y.exponents i 0 l in
    let b : get_or y.exponents i 0 ≤ degree y.exponents = get_or-le-sum_by (λ n. n) y.exponents i 0 (omega (arith, h.0.canonical.2)) in
    let c = h.0.low.0 in
    (omega (arith, a, b, c), leads_low ring i G l h.1)

pub side_low : (i b : ℕ) (L : List (List ℕ)) → AllByRecursion (λ l. get_or l i 0 ≤ b) L → side i L ≤ b
side_low i b [] h = omega arith
side_low i b (l ∷ L) h = by_test (side_low i b L h.1) (is_power i l) refl
  where
    by_rest : is_power i l ≡ true → (o : Option ℕ) → least_power i L ≡ o → side i (l ∷ L) ≤ b
    by_rest t None o = rw (t, o) h.0
    by_rest t (Some c) o = rw (t, o) (let k : get_or l i 0 ≤ b = h.0 in omega arith)

    by_test : side i L ≤ b → (t : Bool) → is_power i l ≡ t → side i (l ∷ L) ≤ b
    by_test ih true t = by_rest t (least_power i L) refl
    by_test ih false t = rw t ih

-- tests of polynomials one after the other

pub divisor_by_polys : (ring : Ring) (m : List ℕ) (G : List (List Term)) → list_any (lead_divides ring m) G ≡ has_divisor (leads_x ring G) m
divisor_by_polys ring m [] = refl
divisor_by_polys ring m ([] ∷ G) = divisor_by_polys ring m G
divisor_by_polys ring m ((y ∷ f) ∷ G) = ap (λ b. lead_divides ring m (y ∷ f) || b) (divisor_by_polys ring m G)

pub power_by_polys : (ring : Ring) (i : ℕ) (G : List (List Term)) → list_any (lead_is_power ring i) G ≡ has_power i (leads_x ring G)
power_by_polys ring i [] = refl
power_by_polys ring i ([] ∷ G) = power_by_polys ring i G
power_by_polys ring i ((y ∷ f) ∷ G) = ap (λ b. lead_is_power ring i (y ∷ f) || b) (power_by_polys ring i G)

-- a loop over the polynomials

pub at_place : (G : List (List Term)) (i : ℕ) (g : List Term) → i < length G → g ≡ get_or G i g → drop i G ≡ g ∷ drop (i + 1) G
at_place G i g l e = drop_more G i g l ∙ ap (λ f. f ∷ drop (i + 1) G) (sym e)

pub any_here : (test : List Term → Bool) (G : List (List Term)) (i : ℕ) (g : List Term) → i < length G → g ≡ get_or G i g → test g ≡ true
    → list_any test (drop i G) ≡ true
any_here test G i g l e t = ap (list_any test) (at_place G i g l e) ∙ rw t refl

pub any_later : (test : List Term → Bool) (G : List (List Term)) (i : ℕ) (g : List Term) → i < length G → g ≡ get_or G i g → test g ≡ false
    → list_any test (drop (i + 1) G) ≡ list_any test (drop i G)
any_later test G i g l e t = sym (ap (list_any test) (at_place G i g l e) ∙ rw t refl)
