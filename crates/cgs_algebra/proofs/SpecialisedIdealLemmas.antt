-- The ideal of the specialised polynomials: what the members of an ideal become, and members for each of its members.
use Rattle.std.proofs.Common.{ℕ, suc, ◌≡◌, ◌+◌, ◌-◌, ◌*◌, ◌%◌, ◌<◌, ◌≤◌, ◌⊎◌, inl, inr, List, [], ◌∷◌, ◌++◌, length, get_or, map, take, drop, replicate, refl}
use Rattle.std.proofs.Common.{sym, ap, ◌∙◌, arith}
use Rattle.std.proofs.Math.Nat.{zero-mod, zero-add, add-zero, mul-zero, mul-one}
use Rattle.std.proofs.lemmas.Bool.{cases_lt}
use Rattle.std.proofs.lemmas.List.{length-append, length-replicate, take_at, drop_at, get_or_append_left, get_or-append_right}
use Rattle.cgs_field.proofs.ModularLemmas.{mod_add, mod_mul}
use Rattle.cgs_exps.specs.Monomial.{product}
use Rattle.cgs_poly.specs.Ring.{Ring}
use Rattle.cgs_poly.specs.Polynomial.{Term, places, total, IsOfRing}
use Rattle.cgs_poly.specs.Product.{multiple}
use Rattle.cgs_poly.specs.Parameters.{power_at, variables_ring, specialised}
use Rattle.cgs_poly.proofs.SumLemmas.{alike_same, alike_from_coefficients, coefficients_from_alike, total_append}
use Rattle.cgs_poly.proofs.CanonicalLemmas.{append_of_ring}
use Rattle.cgs_poly.proofs.ProductLemmas.{multiple_of_ring, total_multiple}
use Rattle.cgs_poly.proofs.SpecialisedLemmas.{power_zeros, at_point, total_at_multiple, variables_length}
use Rattle.cgs_algebra.specs.Combination.{Summand, summand, combined, IsCombination, IsMember}
use Rattle.cgs_algebra.proofs.PointLemmas.{total_specialised, get_specialised}

module _ (ring : Ring) (a : List ℕ) (pos : 0 < ring.modulus) (F E : List (List Term))
    (f_ok : (i : ℕ) → i < length F → IsOfRing ring (get_or F i []))
    (e_ok : (i : ℕ) → i < length E → IsOfRing ring (get_or E i []))
    (e_zero : (i : ℕ) → i < length E → (w : List ℕ → ℕ) → total (at_point ring a w) (get_or E i []) % ring.modulus ≡ 0) where
  abbrev specs : List (List Term)
  specs = map (specialised ring a) F

  length_specs : length specs ≡ length F
  length_specs = go F
    where
      go : (L : List (List Term)) → length (map (specialised ring a) L) ≡ length L
      go [] = refl
      go (f ∷ L) = ap suc (go L)

  record Specialised (ks : List Summand) : Type 0 where
    summands : List Summand
    combination : IsCombination (variables_ring ring) specs summands
    value : (w : List ℕ → ℕ) → total (at_point ring a w) (combined (F ++ E) ks) % ring.modulus ≡ total w (combined specs summands) % ring.modulus

  -- a combination of F followed by E, term by term at the point
  down : (ks : List Summand) → IsCombination ring (F ++ E) ks → Specialised ks
  down [] h = record { summands = []; combination = tt; value = λ w. refl }
  down (k ∷ ks) h = by_place k ks h.0 h.1 (down ks h.2) (cases_lt k.place (length F))
    where
      by_place : (k : Summand) (ks : List Summand) → length k.monomial ≡ places ring → k.place < length (F ++ E) → Specialised ks
          → (k.place < length F) ⊎ (length F ≤ k.place) → Specialised (k ∷ ks)
      by_place k ks l place rest (inl lt) =
          let c : ℕ = k.coefficient * power_at (drop ring.variables k.monomial) a in
          let t : List ℕ = take ring.variables k.monomial in
          let g : List Term = get_or F k.place [] in
          let at_f : get_or (F ++ E) k.place [] ≡ g = get_or_append_left F E [] k.place lt in
          record {
            summands = summand c t k.place ∷ rest.summands;
            combination = (variables_length ring k.monomial l ∙ sym (add-zero ring.variables), omega (arith, length_specs), rest.combination);
            value = λ w.
                let v : List ℕ → ℕ = λ n. w (product t n) in
                let i : total (at_point ring a w) (multiple k.coefficient k.monomial (get_or (F ++ E) k.place []) ++ combined (F ++ E) ks)
                ≡ c * total (at_point ring a v) g + total (at_point ring a w) (combined (F ++ E) ks) =
                rw at_f (total_append (at_point ring a w) (multiple k.coefficient k.monomial g) (combined (F ++ E) ks)
                ∙ ap (λ n. n + total (at_point ring a w) (combined (F ++ E) ks))
                (total_at_multiple ring a w k.coefficient k.monomial g l (f_ok k.place lt))) in
                let j : total w (multiple c t (get_or specs k.place []) ++ combined specs rest.summands)
                ≡ c * total v (specialised ring a g) + total w (combined specs rest.summands) =
                rw (get_specialised ring a F k.place) (total_append w (multiple c t (specialised ring a g)) (combined specs rest.summands)
                ∙ ap (λ n. n + total w (combined specs rest.summands)) (total_multiple w c t (specialised ring a g))) in
                let s = mod_add ring.modulus (c * total (at_point ring a v) g) (c * total v (specialised ring a g)) _ _
                (mod_mul ring.modulus c c _ _ refl (sym (total_specialised ring a v g pos (f_ok k.place lt)))) (rest.value w) in
                ap (λ n. n % ring.modulus) i ∙ (s ∙ ap (λ n. n % ring.modulus) (sym j));
          }
      by_place k ks l place rest (inr ge) =
          let e : ℕ = k.place - length F in
          let g : List Term = get_or E e [] in
          let le : e < length E = omega (arith, length-append F E) in
          let at_e : get_or (F ++ E) k.place [] ≡ g = get_or-append_right F E (length F) k.place [] refl ge in
          record {
            summands = rest.summands;
            combination = rest.combination;
            value = λ w.
                let c : ℕ = k.coefficient * power_at (drop ring.variables k.monomial) a in
                let v : List ℕ → ℕ = λ n. w (product (take ring.variables k.monomial) n) in
                let i : total (at_point ring a w) (multiple k.coefficient k.monomial (get_or (F ++ E) k.place []) ++ combined (F ++ E) ks)
                ≡ c * total (at_point ring a v) g + total (at_point ring a w) (combined (F ++ E) ks) =
                rw at_e (total_append (at_point ring a w) (multiple k.coefficient k.monomial g) (combined (F ++ E) ks)
                ∙ ap (λ n. n + total (at_point ring a w) (combined (F ++ E) ks)) (total_at_multiple ring a w k.coefficient k.monomial g l (e_ok e le))) in
                let z : (c * total (at_point ring a v) g) % ring.modulus ≡ 0 % ring.modulus =
                mod_mul ring.modulus c c _ 0 refl (e_zero e le v ∙ sym (zero-mod ring.modulus)) ∙ ap (λ n. n % ring.modulus) (mul-zero c) in
                let s = mod_add ring.modulus (c * total (at_point ring a v) g) 0 _ _ z (rest.value w) in
                ap (λ n. n % ring.modulus) i ∙ (s ∙ ap (λ n. n % ring.modulus) (zero-add (total w (combined specs rest.summands))));
          }

  -- where the conditions vanish, a member of polynomials and conditions becomes a member of what the polynomials become
  pub specialised_member : (f : List Term) → IsOfRing ring f → IsMember ring (F ++ E) f → IsMember (variables_ring ring) specs (specialised ring a f)
  specialised_member f of_ring h =
      let d : Specialised h.summands = down h.summands h.combination in
      record {
        summands = d.summands;
        combination = d.combination;
        sum = coefficients_from_alike (record
            { under = λ w. total_specialised ring a w f pos of_ring ∙ ((alike_from_coefficients pos h.sum).under (at_point ring a w) ∙ d.value w) });
      }

  record Lifted (ks : List Summand) : Type 0 where
    summands : List Summand
    combination : IsCombination ring (F ++ E) summands
    of_ring : IsOfRing ring (combined (F ++ E) summands)
    value : (w : List ℕ → ℕ) → total (at_point ring a w) (combined (F ++ E) summands) % ring.modulus ≡ total w (combined specs ks) % ring.modulus

  -- a combination of the specialised list, with the parameters' exponents 0
  lift : (ks : List Summand) → IsCombination (variables_ring ring) specs ks → Lifted ks
  lift [] h = record { summands = []; combination = tt; of_ring = tt; value = λ w. refl }
  lift (k ∷ ks) h = step k ks h.0 (omega (arith, h.1, length_specs)) (lift ks h.2)
    where
      step : (k : Summand) (ks : List Summand) → length k.monomial ≡ ring.variables + 0 → k.place < length F → Lifted ks → Lifted (k ∷ ks)
      step k ks l0 lt rest =
          let l : length k.monomial ≡ ring.variables = l0 ∙ add-zero ring.variables in
          let g : List Term = get_or F k.place [] in
          let t : List ℕ = k.monomial ++ replicate ring.parameters 0 in
          let tl : length t ≡ places ring = omega (arith, length-append k.monomial (replicate ring.parameters 0), length-replicate {A = ℕ} ring.parameters 0) in
          let tx : take ring.variables t ≡ k.monomial = take_at k.monomial (replicate ring.parameters 0) ring.variables l in
          let td : drop ring.variables t ≡ replicate ring.parameters 0 = drop_at k.monomial (replicate ring.parameters 0) ring.variables l in
          let at_f : get_or (F ++ E) k.place [] ≡ g = get_or_append_left F E [] k.place lt in
          record {
            summands = summand k.coefficient t k.place ∷ rest.summands;
            combination = (tl, omega (arith, length-append F E), rest.combination);
            of_ring = rw at_f (append_of_ring ring (multiple k.coefficient t g) (combined (F ++ E) rest.summands)
                (multiple_of_ring ring k.coefficient t g tl (f_ok k.place lt)) rest.of_ring);
            value = λ w.
                let v : List ℕ → ℕ = λ n. w (product k.monomial n) in
                let one : k.coefficient * power_at (drop ring.variables t) a ≡ k.coefficient = ap (λ n. k.coefficient * power_at n a) td
                ∙ (ap (λ n. k.coefficient * n) (power_zeros ring.parameters a) ∙ mul-one k.coefficient) in
                let m : total (at_point ring a w) (multiple k.coefficient t g) ≡ k.coefficient * total (at_point ring a v) g =
                total_at_multiple ring a w k.coefficient t g tl (f_ok k.place lt)
                ∙ cc (one, ap (λ n. total (at_point ring a (λ q. w (product n q))) g) tx) in
                let i : total (at_point ring a w) (multiple k.coefficient t (get_or (F ++ E) k.place []) ++ combined (F ++ E) rest.summands)
                ≡ k.coefficient * total (at_point ring a v) g + total (at_point ring a w) (combined (F ++ E) rest.summands) =
                rw at_f (total_append (at_point ring a w) (multiple k.coefficient t g) (combined (F ++ E) rest.summands)
                ∙ ap (λ n. n + total (at_point ring a w) (combined (F ++ E) rest.summands)) m) in
                let j : total w (multiple k.coefficient k.monomial (get_or specs k.place []) ++ combined specs ks)
                ≡ k.coefficient * total v (specialised ring a g) + total w (combined specs ks) =
                rw (get_specialised ring a F k.place) (total_append w (multiple k.coefficient k.monomial (specialised ring a g)) (combined specs ks)
                ∙ ap (λ n. n + total w (combined specs ks)) (total_multiple w k.coefficient k.monomial (specialised ring a g))) in
                let s = mod_add ring.modulus (k.coefficient * total (at_point ring a v) g) (k.coefficient * total v (specialised ring a g)) _ _
                (mod_mul ring.modulus k.coefficient k.coefficient _ _ refl (sym (total_specialised ring a v g pos (f_ok k.place lt)))) (rest.value w) in
                ap (λ n. n % ring.modulus) i ∙ (s ∙ ap (λ n. n % ring.modulus) (sym j));
          }

  -- a IsMember of the specialised list is what a IsMember becomes
  pub lifted_member : (f : List Term) → IsMember (variables_ring ring) specs f
      → (g : List Term) × IsOfRing ring g × IsMember ring (F ++ E) g
      × ((w : List ℕ → ℕ) → total (at_point ring a w) g % ring.modulus ≡ total w f % ring.modulus)
  lifted_member f h =
      let d : Lifted h.summands = lift h.summands h.combination in (
        combined (F ++ E) d.summands,
        d.of_ring,
        record {
          summands = d.summands;
          combination = d.combination;
          sum =
              coefficients_from_alike (alike_same ring.modulus (combined (F ++ E) d.summands));
        },
        λ w. d.value w
            ∙ sym ((alike_from_coefficients pos h.sum).under w),
      )
