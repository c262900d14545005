-- Lists of conditions: whether a polynomial stands there, and whether a point is in their region.
use Rattle.std.proofs.Common.{ℕ, ◌≡◌, ◌==◌, true, false, not, List, [], ◌∷◌, ◌++◌, refl}
use Rattle.std.specs.Bool.{Decides}
use Rattle.std.specs.List.{AllByRecursion, list_all}
use Rattle.std.proofs.lemmas.Bool.{and_parts, eqb-true, eq-eqb, ne_eqb}
use Rattle.cgs_poly.specs.Ring.{Ring}
use Rattle.cgs_poly.specs.Polynomial.{Term}
use Rattle.cgs_poly.specs.Parameters.{value_at}
use Rattle.cgs_poly.specs.Monic.{monic_of}
use Rattle.cgs_poly.specs.Same.{is_among}
use Rattle.cgs_entry.specs.Conditions.{IsInRegion, is_in_region, with_member}

-- adding a polynomial of which h is the monic one
pub added_new : (ring : Ring) (L : List (List Term)) (f h : List Term) → h ≡ monic_of ring f → is_among h L ≡ false → L ++ h ∷ [] ≡ with_member ring L f
added_new ring L f h e n = let t : is_among (monic_of ring f) L ≡ false = rw (← e) n in rw (t, e) refl

pub added_old : (ring : Ring) (L : List (List Term)) (f h : List Term) → h ≡ monic_of ring f → is_among h L ≡ true → L ≡ with_member ring L f
added_old ring L f h e n = let t : is_among (monic_of ring f) L ≡ true = rw (← e) n in rw t refl

-- the test of a region tells whether a point is there
pub region_decides : (ring : Ring) (zero nonzero : List (List Term)) (a : List ℕ) → Decides (is_in_region ring zero nonzero a) (IsInRegion ring zero nonzero a)
region_decides ring zero nonzero a = (inside, test)
  where
    all_zero : (L : List (List Term)) → list_all (λ f. value_at ring a f == 0) L ≡ true → AllByRecursion (λ f. value_at ring a f ≡ 0) L
    all_zero [] e = tt
    all_zero (f ∷ L) e = let parts = and_parts _ _ e in (eqb-true (value_at ring a f) 0 parts.0, all_zero L parts.1)

    none_zero : (L : List (List Term)) → list_all (λ f. not (value_at ring a f == 0)) L ≡ true → AllByRecursion (λ f. ¬ (value_at ring a f ≡ 0)) L
    none_zero [] e = tt
    none_zero (f ∷ L) e = let parts = and_parts _ _ e in (λ z. let t = eq-eqb (value_at ring a f) 0 z in let p = parts.0 in cc, none_zero L parts.1)

    test_zero : (L : List (List Term)) → AllByRecursion (λ f. value_at ring a f ≡ 0) L → list_all (λ f. value_at ring a f == 0) L ≡ true
    test_zero [] h = refl
    test_zero (f ∷ L) h = rw (eq-eqb (value_at ring a f) 0 h.0) (test_zero L h.1)

    test_nonzero : (L : List (List Term)) → AllByRecursion (λ f. ¬ (value_at ring a f ≡ 0)) L → list_all (λ f. not (value_at ring a f == 0)) L ≡ true
    test_nonzero [] h = refl
    test_nonzero (f ∷ L) h = rw (ne_eqb (value_at ring a f) 0 h.0) (test_nonzero L h.1)

    inside : is_in_region ring zero nonzero a ≡ true → IsInRegion ring zero nonzero a
    inside e = let parts = and_parts _ _ e in record { vanish = all_zero zero parts.0; stand = none_zero nonzero parts.1 }

    test : IsInRegion ring zero nonzero a → is_in_region ring zero nonzero a ≡ true
    test h = rw (test_zero zero h.vanish, test_nonzero nonzero h.stand) refl
