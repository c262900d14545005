-- How the run that reduces a product ends.
use Rattle.std.proofs.Common.{ℕ, ◌≡◌, ◌+◌, ◌-◌, ◌≤◌, true, false, Some, List, [], ◌∷◌, drop, refl, sym, ap, ◌∙◌, subst}
use Rattle.std.specs.Prelude.{slice_get}
use Rattle.cgs_list.proofs.ListLemmas.{drop_at}
use Rattle.std.proofs.lemmas.Bool.{le-ltb}
use Rattle.cgs_poly.specs.Ring.{Ring}
use Rattle.cgs_poly.specs.Polynomial.{Term, canonical}
use Rattle.cgs_poly.specs.Product.{all_products}
use Rattle.cgs_divide.specs.Ending.{ended, out_of_degree, followed}
use Rattle.cgs_divide.specs.DivisionRun.{divided, remainder_of, is_too_high}
use Rattle.cgs_radical.specs.EmptinessRun.{product_cost, product_remainder, products_remainder}

module _ (ring : Ring) (B : List (List Term)) (q n : List Term) (units : ℕ) where
  -- it is paid, and a monomial of it is too high
  pub too_high_product : (left : ℕ) → product_cost q n ≤ units → left ≡ units - product_cost q n
      → is_too_high (all_products q n) ≡ true → product_remainder ring B q n units ≡ out_of_degree left
  too_high_product left l e h = rw (le-ltb units (product_cost q n) l, h, e) refl

  -- it is divided
  pub divided_product : (left : ℕ) (f : List Term) → product_cost q n ≤ units → left ≡ units - product_cost q n
      → is_too_high (all_products q n) ≡ false → f ≡ canonical ring (all_products q n)
      → product_remainder ring B q n units ≡ remainder_of (divided ring B left f)
  divided_product left f l e h p = rw (le-ltb units (product_cost q n) l, h, p, e) refl

-- factor by factor

nothing_more : (ring : Ring) (B N : List (List Term)) (units : ℕ) → products_remainder ring B N [] units ≡ ended [] units
nothing_more ring B [] units = refl
nothing_more ring B (n ∷ N) units = refl

pub zero_stays : (ring : Ring) (B N M : List (List Term)) (q : List Term) (units : ℕ) → q ≡ []
    → products_remainder ring B M q units ≡ products_remainder ring B N q units
zero_stays ring B N M q units e =
    subst (λ f. products_remainder ring B M f units ≡ products_remainder ring B N f units)
    (sym e) (nothing_more ring B M units ∙ sym (nothing_more ring B N units))

one_factor : (ring : Ring) (B N : List (List Term)) (q n : List Term) (units : ℕ) → ¬ (q ≡ [])
    → products_remainder ring B (n ∷ N) q units ≡ followed (product_remainder ring B q n units) (products_remainder ring B N)
one_factor ring B N [] n units some = absurd (some refl)
one_factor ring B N (x ∷ q) n units some = refl

module _ (ring : Ring) (B N : List (List Term)) (i : ℕ) (n q : List Term) (units : ℕ) (get : slice_get N i ≡ Some n) (some : ¬ (q ≡ [])) where
  pub factor_step : products_remainder ring B (drop i N) q units
      ≡ followed (product_remainder ring B q n units) (products_remainder ring B (drop (i + 1) N))
  factor_step =
      ap (λ L. products_remainder ring B L q units) (drop_at N i n get) ∙ one_factor ring B (drop (i + 1) N) q n units some
