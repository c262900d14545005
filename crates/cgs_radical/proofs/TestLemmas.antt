-- What the steps of the emptiness run find, as its code takes them.
use Rattle.std.proofs.Common.{ℕ, suc, ◌≡◌, ◌+◌, ◌-◌, ◌%◌, ◌<◌, ◌↔◌, Bool, true, false, cond, IsTrue, Some, List, [], ◌∷◌, ◌++◌, length, map, take, replicate}
use Rattle.std.proofs.Common.{refl, sym, ap, ◌∙◌, arith}
use Rattle.std.specs.Prelude.{slice_get}
use Rattle.std.specs.List.{AllByRecursion}
use Rattle.std.proofs.lemmas.List.{map-append, take-replicate}
use Rattle.std.proofs.Math.Nat.{mod-eq_of_lt}
use Rattle.std.proofs.lemmas.Slice.Eq.{slice_eq-Decides}
use Rattle.cgs_poly.specs.Ring.{Ring}
use Rattle.cgs_poly.specs.Polynomial.{one, Term, term, places, canonical, IsRing, IsOfRing}
use Rattle.cgs_poly.specs.Product.{multiple}
use Rattle.cgs_poly.proofs.SameLemmas.{same_poly_decides}
use Rattle.cgs_poly.proofs.SumLemmas.{alike_swap}
use Rattle.cgs_poly.proofs.CanonicalLemmas.{canonical_same, append_of_ring}
use Rattle.cgs_poly.proofs.ProductLemmas.{multiple_of_ring}
use Rattle.cgs_poly.specs.Parameters.{IsCondition}
use Rattle.cgs_list.proofs.ListLemmas.{take_next}
use Rattle.cgs_algebra.specs.Specialisation.{IsParametric}
use Rattle.cgs_divide.specs.DivisionRun.{is_too_high}
use Rattle.cgs_divide.specs.Ending.{Ending, ended, out_of_degree, followed}
use Rattle.cgs_basis.specs.BasisRun.{basis_run}
use Rattle.cgs_radical.specs.EmptinessRun.{y_ring, with_y, y_times_less_one, products_remainder}
use Rattle.cgs_radical.specs.EmptinessRun.{is_one_alone, contradiction_run, emptiness_from, vanishing_run, emptiness_run}

-- lists

pub map_next : {X Y : Type 0} (f : X → Y) (xs : List X) (i : ℕ) (x : X) → slice_get xs i ≡ Some x → map f (take (i + 1) xs) ≡ map f (take i xs) ++ f x ∷ []
map_next f xs i x e = ap (map f) (take_next xs i x e) ∙ map-append f (take i xs) (x ∷ [])

pub conditions_parametric : (ring : Ring) (E : List (List Term)) → AllByRecursion (IsCondition ring) E → AllByRecursion (IsParametric ring) E
conditions_parametric ring [] h = tt
conditions_parametric ring (f ∷ E) h = (record { canonical = h.0.poly.canonical; free = h.0.free }, conditions_parametric ring E h.1)

-- the test of y*q - 1

module _ (ring : Ring) (B : List (List Term)) (units : ℕ) where
  -- the run of the basis of B and y*q - 1
  abbrev by_basis : List Term → Ending Bool
  by_basis q = followed (basis_run ring (B ++ y_times_less_one ring q ∷ []) units) (λ G. ended (is_one_alone ring G))

  by_degree : (q : List Term) (b : Bool) → ¬ (q ≡ []) → is_too_high (multiple 1 (1 ∷ replicate ring.parameters 0) q) ≡ b
      → contradiction_run basis_run ring B q units ≡ cond b (out_of_degree units) (by_basis q)
  by_degree [] b some e = absurd (some refl)
  by_degree (x ∷ q) b some e = ap (λ b. cond b (out_of_degree units) (by_basis (x ∷ q))) e

  pub contradiction_high : (q : List Term) → ¬ (q ≡ []) → is_too_high (multiple 1 (1 ∷ replicate ring.parameters 0) q) ≡ true
      → contradiction_run basis_run ring B q units ≡ out_of_degree units
  contradiction_high q some e = by_degree q true some e

  pub contradiction_found : (q : List Term) → ¬ (q ≡ []) → is_too_high (multiple 1 (1 ∷ replicate ring.parameters 0) q) ≡ false
      → contradiction_run basis_run ring B q units
      ≡ followed (basis_run ring (B ++ y_times_less_one ring q ∷ []) units) (λ G. ended (is_one_alone ring G))
  contradiction_found q some e = by_degree q false some e

-- the run after the basis of the conditions that have to vanish, in the ring Y above the parameters

module _ (ring Y : Ring) (N ns : List (List Term)) (start : List Term) (y : Y ≡ y_ring ring) (n : ns ≡ with_y ring N) (o : start ≡ one Y)
    (E B : List (List Term)) (units left : ℕ) (kept : vanishing_run ring E units ≡ ended B left) where
  abbrev from : Ring → List (List Term) → List Term → Ending Bool
  from Y ns start = followed (products_remainder Y B ns start left) (contradiction_run basis_run Y B)

  parts : emptiness_from basis_run ring N B left ≡ from Y ns start
  parts = sym (ap (λ Y. from Y ns start) y ∙ (ap (λ ns. from (y_ring ring) ns start) n ∙ ap (from (y_ring ring) (with_y ring N)) (o ∙ ap one y)))

  pub product_part : emptiness_run ring E N units ≡ from Y ns start
  product_part = ap (λ r. followed r (emptiness_from basis_run ring N)) kept ∙ parts

same_tests : (a b : Bool) → (a ≡ true → b ≡ true) → (b ≡ true → a ≡ true) → a ≡ b
same_tests true true f g = refl
same_tests true false f g = sym (f refl)
same_tests false true f g = g refl
same_tests false false f g = refl

pub alone_is_one : (ring : Ring) (G W : List (List Term)) (b : Bool) → W ≡ one ring ∷ [] → IsTrue b ↔ (G ≡ W) → is_one_alone ring G ≡ b
alone_is_one ring G W b e h =
    let d = slice_eq-Decides same_poly_decides G (one ring ∷ []) (is_one_alone ring G) refl in
    same_tests (is_one_alone ring G) b (λ t. h.1 (d.0 t ∙ sym e)) (λ t. d.1 (h.0 t ∙ e))

-- y*q - 1 with the number -1 in front
pub swapped : (ring : Ring) (c d : ℕ) (y z : List ℕ) (q : List Term) → 0 < ring.modulus → c ≡ ring.modulus - 1
    → d ≡ 1 → length y ≡ places ring → length z ≡ places ring → IsOfRing ring q
    → canonical ring (term c z ∷ [] ++ multiple d y q) ≡ canonical ring (multiple 1 y q ++ term (ring.modulus - 1) z ∷ [])
swapped ring c d y z q pos ec ed ly lz of_ring =
    let last : IsOfRing ring (term (ring.modulus - 1) z ∷ []) = (lz, tt) in
    let first : IsOfRing ring (multiple 1 y q) = multiple_of_ring ring 1 y q ly of_ring in
    ap (λ n. canonical ring (term n z ∷ [] ++ multiple d y q)) ec ∙ (ap (λ n. canonical ring (term (ring.modulus - 1) z ∷ [] ++ multiple n y q)) ed
    ∙ canonical_same ring (term (ring.modulus - 1) z ∷ [] ++ multiple 1 y q) (multiple 1 y q ++ term (ring.modulus - 1) z ∷ []) pos
    (append_of_ring ring (term (ring.modulus - 1) z ∷ []) (multiple 1 y q) last first)
    (append_of_ring ring (multiple 1 y q) (term (ring.modulus - 1) z ∷ []) first last)
    (alike_swap ring.modulus (term (ring.modulus - 1) z ∷ []) (multiple 1 y q)))

-- monomials of the code

pub y_places : (ring : Ring) (n : ℕ) → IsRing ring → ring.variables ≡ 1 → n ≡ places ring
    → take {A = ℕ} n (1 ∷ replicate 16 0) ≡ 1 ∷ replicate ring.parameters 0
y_places ring n r v e =
    let s : n ≡ suc ring.parameters = omega (arith, e, v) in
    ap (λ k. take {A = ℕ} k (1 ∷ replicate 16 0)) s ∙ ap (λ (m : List ℕ). 1 ∷ m) (take-replicate ring.parameters 16 0 (let p = r.parameters in omega arith))

pub minus_one : (p a c : ℕ) → 1 < p → a ≡ 1 % p → c ≡ (p - a) % p → c ≡ p - 1
minus_one p a c two e h =
    let o : a ≡ 1 = e ∙ mod-eq_of_lt two in
    let l : p - 1 < p = omega arith in
    h ∙ (ap (λ n. (p - n) % p) o ∙ mod-eq_of_lt l)
