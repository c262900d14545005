-- An autoreduction that ends: each member that is kept was divided by the results before it.
use Rattle.std.proofs.Common.{ℕ, suc, ◌≡◌, ◌+◌, ◌<◌, ◌≤◌, ◌⊎◌, inl, inr, true, List, [], ◌∷◌, ◌++◌, length, get_or, take, drop, add-one, sym, ap, ◌∙◌}
use Rattle.std.proofs.Common.{subst, arith}
use Rattle.std.proofs.lemmas.Bool.{cases_order}
use Rattle.std.proofs.Math.Seq.{drop-cons, get_or-append_seam, take-append_seam}
use Rattle.std.proofs.lemmas.List.{length-append, get_or_append_left, take-append-le}
use Rattle.cgs_exps.specs.Monomial.{divides}
use Rattle.cgs_poly.specs.Ring.{Ring}
use Rattle.cgs_poly.specs.Polynomial.{Term, IsRing, IsCanonical}
use Rattle.cgs_poly.specs.Product.{leading_monomial, leading_coefficient}
use Rattle.cgs_algebra.specs.Groebner.{AreMonic, IsGroebnerBasis, IsReduced, IsAscending, leading_monomial_at}
use Rattle.cgs_divide.specs.Ending.{Ending, ended, followed}
use Rattle.cgs_divide.specs.DivisionRun.{divided, remainder_of}
use Rattle.cgs_divide.specs.Division.{HasDivided, IsRemainder}
use Rattle.cgs_divide.specs.Autoreduction.{IsDividedAt}
use Rattle.cgs_poly.specs.Monic.{monic_of}
use Rattle.cgs_divide.specs.AutoreductionRun.{minimal_members, reduced_after, autoreduction}
use Rattle.cgs_divide.proofs.DivisionLemmas.{left_divided}
use Rattle.cgs_divide.proofs.EndingLemmas.{has_followed}
use Rattle.cgs_divide.proofs.AutoreductionLemmas.{HasLead, lead_kept, autoreduced}
use Rattle.cgs_divide.proofs.MonicLemmas.{monic_itself}
use Rattle.cgs_divide.proofs.MinimalLemmas.{members_ascending, members_monic, members_apart, members_minimal}
use Rattle.cgs_list.proofs.ListLemmas.{all_by_places}
use Rattle.cgs_algebra.proofs.PlaceLemmas.{canonical_at, monic_at}

-- results so far, for the first members
pub record AreResults (ring : Ring) (A R : List (List Term)) : Type 0 where
  pub within : length R ≤ length A
  pub leads : (i : ℕ) → i < length R → HasLead (leading_monomial_at A i) (get_or R i [])
  pub steps : (i : ℕ) → i < length R → IsDividedAt ring A R i

pub results_monic : (ring : Ring) (A R : List (List Term)) → AreResults ring A R → AreMonic ring R
results_monic ring A R h = record {
  canonical = all_by_places (IsCanonical ring) [] R (λ i l. (h.steps i l).divided.canonical_remainder);
  monic = all_by_places (λ g. leading_coefficient g ≡ 1) [] R (λ i l. (h.leads i l).one);
}

module _ (ring : Ring) (r : IsRing ring) (two : 1 < ring.modulus) (A : List (List Term)) (monic : AreMonic ring A)
    (apart : (i j : ℕ) → i < length A → j < length A → (i ≡ j → ⊥) → divides (leading_monomial_at A i) (leading_monomial_at A j) ≡ true → ⊥) where
  pos : 0 < ring.modulus
  pos = omega arith

  -- the result of the next member
  pub record IsNext (R : List (List Term)) (f remainder : List Term) : Type 0 where
    pub quotients : List (List Term)
    pub divided : HasDivided ring R f remainder quotients
    pub leads : HasLead (leading_monomial f) remainder

  next_found : (R : List (List Term)) (f remainder : List Term) (units left : ℕ)
      → AreResults ring A R → length R < length A → get_or A (length R) [] ≡ f
      → remainder_of (divided ring R units f) ≡ ended remainder left → IsNext R f remainder
  next_found R [] remainder units left h l e d =
      let z : leading_coefficient [] ≡ 1 = ap leading_coefficient (sym e) ∙ monic_at A monic.monic (length R) l in absurd (omega arith)
  next_found R (x ∷ f) remainder units left h l e d =
      let can : IsCanonical ring (x ∷ f) = subst (λ q. IsCanonical ring q) e (canonical_at ring A monic.canonical (length R) l) in
      let one : x.coefficient ≡ 1 = ap leading_coefficient (sym e) ∙ monic_at A monic.monic (length R) l in
      let ok : AreMonic ring R = results_monic ring A R h in
      let found : IsRemainder ring R (x ∷ f) remainder = left_divided ring R units left (x ∷ f) remainder pos ok can d in
      record {
        quotients = found.quotients;
        divided = found.divided;
        leads = lead_kept ring pos R ok two x f remainder found.quotients can one found.divided (λ j k n.
            let s : divides (leading_monomial_at A j) (leading_monomial_at A (length R)) ≡ true =
            subst (λ m. divides m (leading_monomial_at A (length R)) ≡ true) (h.leads j k).lead_is
            (subst (λ m. divides (leading_monomial_at R j) m ≡ true) (sym (ap leading_monomial e)) n) in
            apart j (length R) (omega arith) l (λ z. omega arith) s);
      }

  -- it is monic already
  next_monic : (R : List (List Term)) (f remainder : List Term) → IsNext R f remainder → monic_of ring remainder ≡ remainder
  next_monic R f [] h = let z : leading_coefficient [] ≡ 1 = h.leads.one in absurd (omega arith)
  next_monic R f (y ∷ remainder) h = monic_itself ring r y remainder h.divided.canonical_remainder h.leads.one

  more_results : (R : List (List Term)) (f remainder : List Term) → AreResults ring A R → length R < length A
      → get_or A (length R) [] ≡ f → IsNext R f remainder → AreResults ring A (R ++ remainder ∷ [])
  more_results R f remainder h l e n = record {
    within = omega (arith, length-append R (remainder ∷ []));
    leads = λ i k. by_place i (omega (arith, length-append R (remainder ∷ []))) (cases_order i (length R));
    steps = λ i k. step_at i (omega (arith, length-append R (remainder ∷ []))) (cases_order i (length R));
  }
    where
      last : HasLead (leading_monomial_at A (length R)) (get_or (R ++ remainder ∷ []) (length R) [])
      last = subst (λ q. HasLead (leading_monomial_at A (length R)) q) (sym (get_or-append_seam R remainder [] []))
          (subst (λ m. HasLead m remainder) (sym (ap leading_monomial e)) n.leads)

      by_place : (i : ℕ) → i ≤ length R → (i ≡ length R) ⊎ ((i < length R) ⊎ (length R < i))
          → HasLead (leading_monomial_at A i) (get_or (R ++ remainder ∷ []) i [])
      by_place i b (inl s) = subst (λ j. HasLead (leading_monomial_at A j) (get_or (R ++ remainder ∷ []) j [])) (sym s) last
      by_place i b (inr (inl k)) = subst (λ q. HasLead (leading_monomial_at A i) q) (sym (get_or_append_left R (remainder ∷ []) [] i k)) (h.leads i k)
      by_place i b (inr (inr k)) = absurd (omega arith)

      last_step : IsDividedAt ring A (R ++ remainder ∷ []) (length R)
      last_step =
          let t : take (length R) (R ++ remainder ∷ []) ≡ R = take-append_seam R (remainder ∷ []) in
          record { quotients = n.quotients; divided = rw (t, e, get_or-append_seam R remainder [] []) n.divided }

      step_at : (i : ℕ) → i ≤ length R → (i ≡ length R) ⊎ ((i < length R) ⊎ (length R < i)) → IsDividedAt ring A (R ++ remainder ∷ []) i
      step_at i b (inl s) = subst (λ j. IsDividedAt ring A (R ++ remainder ∷ []) j) (sym s) last_step
      step_at i b (inr (inl k)) =
          let o = h.steps i k in
          record {
            quotients = o.quotients;
            divided =
                rw (take-append-le i R (remainder ∷ []) (omega arith), get_or_append_left R (remainder ∷ []) [] i k) o.divided;
          }
      step_at i b (inr (inr k)) = absurd (omega arith)

  -- the run goes on with the next member

  -- what follows the division of the member at a place
  abbrev next_run : List (List Term) → ℕ → List Term → ℕ → Ending (List (List Term))
  next_run R n remainder left = reduced_after ring (R ++ monic_of ring remainder ∷ []) (drop (suc n) A) left

  pub run_step : (R : List (List Term)) (n units : ℕ) → n < length A
      → reduced_after ring R (drop n A) units ≡ followed (remainder_of (divided ring R units (get_or A n []))) (next_run R n)
  run_step R n units l = ap (λ K. reduced_after ring R K units) (drop-cons A n [] l)

  pub run_goes_on : (R : List (List Term)) (n units left : ℕ) (remainder : List Term) → AreResults ring A R → length R ≡ n → n < length A
      → remainder_of (divided ring R units (get_or A n [])) ≡ ended remainder left
      → (reduced_after ring R (drop n A) units ≡ reduced_after ring (R ++ remainder ∷ []) (drop (n + 1) A) left) × AreResults ring A (R ++ remainder ∷ [])
  run_goes_on R n units left remainder h c l e =
      let k : length R < length A = omega arith in
      let at : get_or A (length R) [] ≡ get_or A n [] = ap (λ j. get_or A j []) c in
      let m = next_found R (get_or A n []) remainder units left h k at e in
      let s = run_step R n units l ∙ ap (λ q. followed q (next_run R n)) e in (
        rw add-one (s ∙ ap (λ q. reduced_after ring (R ++ q ∷ []) (drop (suc n) A) left) (next_monic R (get_or A n []) remainder m)),
        more_results R (get_or A n []) remainder h k at m,
      )

  -- the members from the place of the next result on
  abbrev Follows : List (List Term) → List (List Term) → Type 0
  Follows R K = (length A ≡ length R + length K) × ((j : ℕ) → j < length K → get_or A (length R + j) [] ≡ get_or K j [])

  follows_next : (R K : List (List Term)) (f remainder : List Term) → Follows R (f ∷ K) → Follows (R ++ remainder ∷ []) K
  follows_next R K f remainder h = (
    omega (arith, h.0, length-append R (remainder ∷ [])),
    λ j l.
        let e : length (R ++ remainder ∷ []) + j ≡ length R + suc j = omega (arith, length-append R (remainder ∷ [])) in
        ap (λ n. get_or A n []) e ∙ h.1 (suc j) (omega arith),
  )

  next_at : (R K : List (List Term)) (f : List Term) → Follows R (f ∷ K) → get_or A (length R) [] ≡ f
  next_at R K f h = let e : length R + 0 ≡ length R = omega arith in ap (λ n. get_or A n []) (sym e) ∙ h.1 0 (omega arith)

  run_divides : (K R S : List (List Term)) (units left : ℕ) → AreResults ring A R → Follows R K
      → reduced_after ring R K units ≡ ended S left → AreResults ring A S × (length S ≡ length A)
  run_divides [] R S units left h k e =
      let s : R ≡ S = cc in
      let l : length S ≡ length R = ap length (sym s) in
      (subst (λ T. AreResults ring A T) s h, omega (arith, l, k.0))
  run_divides (f ∷ K) R S units left h k e =
      let w = has_followed (remainder_of (divided ring R units f)) (λ remainder left. reduced_after ring (R ++ monic_of ring remainder ∷ []) K left) S left e in
      let at : get_or A (length R) [] ≡ f = next_at R K f k in
      let l : length R < length A = omega (arith, k.0) in
      let n : IsNext R f w.first = next_found R f w.first units w.units h l at w.ran in
      let m : reduced_after ring (R ++ w.first ∷ []) K w.units ≡ ended S left = rw (← next_monic R f w.first n) w.then in
      run_divides K (R ++ w.first ∷ []) S w.units left (more_results R f w.first h l at n) (follows_next R K f w.first k) m

-- what an autoreduction of monic members finds: the members that are kept, each divided by the results before it
pub autoreduction_divides : (ring : Ring) (G R : List (List Term)) (units left : ℕ) → IsRing ring → 1 < ring.modulus → AreMonic ring G
    → autoreduction ring G units ≡ ended R left → AreResults ring (minimal_members ring G) R × (length R ≡ length (minimal_members ring G))
unfolding autoreduction
autoreduction_divides ring G R units left r two ok e =
    let pos : 0 < ring.modulus = omega arith in
    let K : List (List Term) = minimal_members ring G in
    run_divides ring r two K (members_monic ring G pos ok) (members_apart ring G pos ok) K [] R units left
    (record { within = omega arith; leads = λ i l. absurd (omega arith); steps = λ i l. absurd (omega arith) })
    (omega arith, λ j l. let z : 0 + j ≡ j = omega arith in ap (λ n. get_or K n []) z) e

-- the answer for a Gröbner basis is the reduced one, with ascending leads
pub autoreduction_reduces : (ring : Ring) (G F R : List (List Term)) (units left : ℕ)
    → IsRing ring → 1 < ring.modulus → AreMonic ring G → IsGroebnerBasis ring G F
    → autoreduction ring G units ≡ ended R left → IsReduced ring R F × IsAscending ring R
autoreduction_reduces ring G F R units left r two ok basis e =
    let pos : 0 < ring.modulus = omega arith in
    let h = autoreduction_divides ring G R units left r two ok e in
    let K : List (List Term) = minimal_members ring G in
    let minimal = members_minimal ring G pos ok F basis in
    autoreduced ring F K R two minimal (members_monic ring G pos ok) (members_ascending ring G pos ok) h.1 (λ i l. h.0.steps i (omega (arith, h.1)))
