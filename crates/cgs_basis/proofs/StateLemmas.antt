-- What is known of a completion at each step: monic members of the ideal, and each pair of places waits or has an lcm representation.
use Rattle.std.proofs.Common.{ℕ, suc, ◌≡◌, ◌+◌, ◌<◌, ◌≤◌, ◌⊎◌, inl, inr, true, false, cond, List, [], ◌∷◌, ◌++◌, length, get_or, zero-add, refl, sym}
use Rattle.std.proofs.Common.{ap, ◌∙◌, subst, arith}
use Rattle.std.proofs.Math.Seq.{get_or-append_seam}
use Rattle.std.proofs.lemmas.Bool.{cases_order}
use Rattle.std.proofs.lemmas.List.{length-append, length-map, map-append, get_or-map, get_or_append_left}
use Rattle.cgs_exps.specs.Monomial.{lcm}
use Rattle.cgs_order.specs.declared.block.BlockOrder.{BlockOrder}
use Rattle.cgs_poly.specs.Ring.{Ring}
use Rattle.cgs_poly.specs.Polynomial.{Term, places, order_of, IsRing, IsPoly, IsCanonical}
use Rattle.cgs_poly.specs.Product.{leading_monomial, leading_coefficient}
use Rattle.cgs_algebra.specs.Combination.{IsMember}
use Rattle.cgs_algebra.specs.Groebner.{AreMonic, leading_monomial_at}
use Rattle.cgs_algebra.specs.SPolynomial.{pair_lcm, HasLcmRepresentation}
use Rattle.cgs_pairs.specs.declared.pair.Pair.{Pair}
use Rattle.cgs_pairs.specs.PairOrder.{pair, with_pairs, IsWaiting, HavePlaces}
use Rattle.cgs_pairs.specs.Runs.{WaitingPairs, AreLeads}
use Rattle.cgs_pairs.specs.Passed.{IsPairOf}
use Rattle.cgs_pairs.specs.Unpassed.{unpassed}
use Rattle.cgs_pairs.proofs.PairLemmas.{pairs_here, pairs_from}
use Rattle.cgs_pairs.proofs.QueueLemmas.{with_pairs_ascending}
use Rattle.cgs_pairs.proofs.UnpassedLemmas.{unpassed_before}
use Rattle.std.specs.List.{AllByRecursion}
use Rattle.cgs_poly.specs.Monic.{monic_of}
use Rattle.cgs_poly.specs.Same.{is_among}
use Rattle.cgs_list.proofs.ListLemmas.{all_push, all_weaker, all_by_places}
use Rattle.cgs_basis.specs.BasisRun.{Completion, leads_of, with_last, appended, with_generator, with_remainder}
use Rattle.cgs_basis.specs.Completion.{IsCompletion, StandFor}
use Rattle.cgs_algebra.proofs.GrowthLemmas.{representation_more}
use Rattle.cgs_algebra.proofs.RepresentationLemmas.{lead_at_length}
use Rattle.cgs_exps.proofs.MonomialLemmas.{lcm_length}
use Rattle.cgs_poly.proofs.MultipleLemmas.{lead_length, monic_not_empty}
use Rattle.cgs_poly.proofs.RingLemmas.{ring_positive, places_few}

-- what is known of the members and of the pairs that wait

pub record IsSound (ring : Ring) (F G : List (List Term)) (pairs : List Pair) : Type 0 where
  pub monic : AreMonic ring G
  pub inside : AllByRecursion (IsMember ring F) G
  pub known : (q : Pair) → IsWaiting q pairs → IsPairOf G q

-- the pair of two places waits, or has an lcm representation
abbrev pub IsSettledAt : Ring → List (List Term) → List Pair → ℕ → ℕ → Type 0
IsSettledAt ring G pairs i j = ((q : Pair) × IsWaiting q pairs × (q.smaller ≡ i) × (q.larger ≡ j)) ⊎ HasLcmRepresentation ring G i j

pub record AreSettled (ring : Ring) (G : List (List Term)) (pairs : List Pair) : Type 0 where
  pub at : (i j : ℕ) → i < j → j < length G → IsSettledAt ring G pairs i j

-- a pair that has a representation need not wait
pub taken_settled : (ring : Ring) (G : List (List Term)) (x : Pair) (pairs : List Pair) → AreSettled ring G (x ∷ pairs)
    → HasLcmRepresentation ring G x.smaller x.larger → AreSettled ring G pairs
taken_settled ring G x pairs h r = record { at = λ i j l k. by_case i j (h.at i j l k) }
  where
    by_case : (i j : ℕ) → IsSettledAt ring G (x ∷ pairs) i j → IsSettledAt ring G pairs i j
    by_case i j (inr k) = inr k
    by_case i j (inl q) = by_pair q.0 q.1 q.2 q.3
      where
        by_pair : (q : Pair) → IsWaiting q (x ∷ pairs) → q.smaller ≡ i → q.larger ≡ j → IsSettledAt ring G pairs i j
        by_pair q (inr w) a b = inl (q, w, a, b)
        by_pair q (inl e) a b =
            let s : x.smaller ≡ i = ap (λ (y : Pair). y.smaller) (sym e) ∙ a in
            let t : x.larger ≡ j = ap (λ (y : Pair). y.larger) (sym e) ∙ b in
            inr (subst (λ n. HasLcmRepresentation ring G i n) t (subst (λ n. HasLcmRepresentation ring G n x.larger) s r))

-- a new member at the end, with its pairs among those that wait

module _ (ring : Ring) (F G : List (List Term)) (g : List Term) where
  long : length (G ++ g ∷ []) ≡ suc (length G)
  long = omega (arith, length-append G (g ∷ []))

  pub appended_monic : AreMonic ring G → IsCanonical ring g → leading_coefficient g ≡ 1 → AreMonic ring (G ++ g ∷ [])
  appended_monic h can one =
      record { canonical = all_push (IsCanonical ring) G g h.canonical can; monic = all_push (λ f. leading_coefficient f ≡ 1) G g h.monic one }

  -- a pair of the list is one of the longer list
  pair_more : (q : Pair) → IsPairOf G q → IsPairOf (G ++ g ∷ []) q
  pair_more q k = record {
    apart = k.apart;
    within = omega (arith, long, k.within);
    lcm = k.lcm
        ∙ (ap (λ f. pair_lcm f (get_or G q.larger [])) (sym (get_or_append_left G (g ∷ []) [] q.smaller (omega (arith, k.apart, k.within))))
        ∙ ap (λ f. pair_lcm (get_or (G ++ g ∷ []) q.smaller []) f) (sym (get_or_append_left G (g ∷ []) [] q.larger k.within)));
  }

  lead_at : (k : ℕ) → k < length G → get_or (leads_of G) k [] ≡ leading_monomial (get_or (G ++ g ∷ []) k [])
  lead_at k l = get_or-map leading_monomial G k [] [] l ∙ ap leading_monomial (sym (get_or_append_left G (g ∷ []) [] k l))

  -- the pairs that wait are pairs of the longer list
  pub appended_known : (pairs : List Pair) → ((q : Pair) → IsWaiting q pairs → IsPairOf G q) → (q : Pair)
      → IsWaiting q (with_last (order_of ring) G g pairs) → IsPairOf (G ++ g ∷ []) q
  appended_known pairs h q w =
      elim (pairs_from (order_of ring) (leading_monomial g) (length G) 0 (leads_of G) pairs q w) as (λ _. IsPairOf (G ++ g ∷ []) q) [
        | inl (k, l, e) ↦
            let m : k < length G = omega (arith, l, length-map G leading_monomial) in
            subst (λ x. IsPairOf (G ++ g ∷ []) x) (sym (e ∙ ap (λ n. pair (lcm (get_or (leads_of G) k []) (leading_monomial g)) (length G) n) (zero-add k)))
            (record {
              apart = m;
              within = omega (arith, long);
              lcm = ap (λ a. lcm a (leading_monomial g)) (lead_at k m)
                  ∙ ap (λ b. lcm (leading_monomial (get_or (G ++ g ∷ []) k [])) (leading_monomial b)) (sym (get_or-append_seam G g [] []));
            })
        | inr v ↦ pair_more q (h q v)
      ]

  pub appended_sound : (pairs : List Pair) → IsSound ring F G pairs → IsCanonical ring g → leading_coefficient g ≡ 1 → IsMember ring F g
      → IsSound ring F (G ++ g ∷ []) (with_last (order_of ring) G g pairs)
  appended_sound pairs h can one member = record {
    monic = appended_monic h.monic can one;
    inside = all_push (IsMember ring F) G g h.inside member;
    known = appended_known pairs h.known;
  }

  pub appended_settled : (before after : List Pair) → AreSettled ring G before → ((q : Pair) → IsWaiting q before → IsWaiting q after)
      → ((k : ℕ) → k < length G → (q : Pair) × IsWaiting q after × (q.smaller ≡ k) × (q.larger ≡ length G)) → AreSettled ring (G ++ g ∷ []) after
  appended_settled before after h kept new = record { at = λ i j l k. by_place i j l (omega (arith, length-append G (g ∷ []))) (cases_order j (length G)) }
    where
      old : (i j : ℕ) → i < j → j < length G → IsSettledAt ring (G ++ g ∷ []) after i j
      old i j l k = elim (h.at i j l k) as (λ _. IsSettledAt ring (G ++ g ∷ []) after i j) [
        | inl q ↦ inl (q.0, kept q.0 q.1, q.2, q.3)
        | inr r ↦ inr (representation_more ring G (g ∷ []) i j (omega arith) k r)
      ]

      by_place : (i j : ℕ) → i < j → j ≤ length G → (j ≡ length G) ⊎ ((j < length G) ⊎ (length G < j)) → IsSettledAt ring (G ++ g ∷ []) after i j
      by_place i j l b (inl e) = let q = new i (omega arith) in inl (q.0, q.1, q.2, q.3 ∙ sym e)
      by_place i j l b (inr (inl k)) = old i j l k
      by_place i j l b (inr (inr k)) = absurd (omega arith)

-- the pairs of the new member are among those that wait
pub new_waits : (order : BlockOrder) (G : List (List Term)) (g : List Term) (pairs : List Pair) (k : ℕ) → k < length G
    → (q : Pair) × IsWaiting q (with_last order G g pairs) × (q.smaller ≡ k) × (q.larger ≡ length G)
new_waits order G g pairs k l = (
  pair (lcm (get_or (leads_of G) k []) (leading_monomial g)) (length G) (0 + k),
  pairs_here order (leading_monomial g) (length G) 0 (leads_of G) pairs k (omega (arith, l, length-map G leading_monomial)),
  zero-add k,
  refl,
)

pub lead_here : (G : List (List Term)) (i : ℕ) → i < length G → get_or (leads_of G) i [] ≡ leading_monomial_at G i
lead_here G i l = get_or-map leading_monomial G i [] [] l

-- each lead has as many places as the order
pub members_leads : (ring : Ring) (G : List (List Term)) → IsRing ring → AreMonic ring G → AreLeads (order_of ring) (leads_of G)
members_leads ring G r ok =
    all_by_places (λ m. (length m ≡ (order_of ring).head + (order_of ring).tail) × (length m ≤ 17)) [] (leads_of G) (λ i l.
    let k : i < length G = omega (arith, l, length-map G leading_monomial) in
    let long : length (get_or (leads_of G) i []) ≡ places ring = ap length (lead_here G i k) ∙ lead_at_length ring G (ring_positive ring r) ok i k in
    (long, omega (arith, long, places_few ring r)))

-- a polynomial at the end, with its pairs

module _ (ring : Ring) (G : List (List Term)) (queue : WaitingPairs) (g : List Term) (h : IsCompletion ring G queue) (poly : IsPoly ring g)
    (one : leading_coefficient g ≡ 1) (after : WaitingPairs) where
  pub appended_completion : after.order ≡ queue.order → after.leads ≡ queue.leads ++ leading_monomial g ∷ [] → IsCompletion ring (G ++ g ∷ []) after
  appended_completion o l = record {
    order = o ∙ h.order;
    leads = l ∙ (ap (λ ls. ls ++ leading_monomial g ∷ []) h.leads ∙ sym (map-append leading_monomial G (g ∷ [])));
    monic = appended_monic ring [] G g h.monic poly.canonical one;
    polys = all_push (IsPoly ring) G g h.polys poly;
  }

  module _ (r : IsRing ring) where
    abbrev order : BlockOrder
    order = order_of ring

    abbrev leads : List (List ℕ)
    leads = leads_of G

    lead : length (leading_monomial g) ≡ order.head + order.tail
    lead = lead_length ring g poly.canonical (monic_not_empty g one)

    right : AllByRecursion (λ l. length l ≡ order.head + order.tail) (leads_of G)
    right =
        all_weaker (λ m. (length m ≡ order.head + order.tail) × (length m ≤ 17)) (λ m. length m ≡ order.head + order.tail) (leads_of G)
        (members_leads ring G r h.monic) (λ m p. p.0)

    pos : 0 < ring.modulus
    pos = ring_positive ring r

    places_known : (pairs : List Pair) → ((q : Pair) → IsWaiting q pairs → IsPairOf G q) → HavePlaces order pairs
    places_known [] k = tt
    places_known (q ∷ pairs) k = (
      let is = k q (inl refl) in
          ap length is.lcm
          ∙ lcm_length (leading_monomial_at G q.smaller) (leading_monomial_at G q.larger) (order.head + order.tail)
          (lead_at_length ring G pos h.monic q.smaller (omega (arith, is.apart, is.within))) (lead_at_length ring G pos h.monic q.larger is.within),
      places_known pairs (λ p w. k p (inr w)),
    )

    -- the queue with the new pairs, without those that are passed
    module _ (e : after.pairs ≡ unpassed queue.order (queue.leads ++ leading_monomial g ∷ [])
        (with_pairs queue.order (leading_monomial g) (length queue.leads) 0 queue.leads queue.pairs)) where
      from_members : (pairs : List Pair) → StandFor ring (record { members = G; pairs = pairs }) G queue
          → StandFor ring (appended ring (record { members = G; pairs = pairs }) g) (G ++ g ∷ []) after
      from_members pairs k =
          let m : List ℕ = leading_monomial g in
          let long : length (leads_of G) ≡ length G = length-map G leading_monomial in
          let old : after.pairs ≡ unpassed order (leads_of G ++ leading_monomial g ∷ [])
          (with_pairs order (leading_monomial g) (length (leads_of G)) 0 (leads_of G) (unpassed order (leads_of G) pairs)) =
          e ∙ rw (h.order, h.leads, k.pairs) refl in
          let all : after.pairs ≡ unpassed order (leads_of G ++ leading_monomial g ∷ [])
          (with_pairs order (leading_monomial g) (length (leads_of G)) 0 (leads_of G) pairs) =
          old ∙ unpassed_before order (leads_of G) (leading_monomial g) lead right pairs
          (record { ascending = k.ascending; places = places_known pairs k.known })
          (λ q w. let is = k.known q w in (omega (arith, is.apart, is.within, long), omega (arith, is.within, long))) in
          record {
            members = refl;
            pairs = all ∙ rw (map-append leading_monomial G (g ∷ []), length-map G leading_monomial) refl;
            ascending = with_pairs_ascending order (leading_monomial g) (length G) 0 (leads_of G) pairs lead right k.ascending (places_known pairs k.known)
                (λ q w. inl (k.known q w).within);
            known = appended_known ring [] G g pairs k.known;
          }

      pub appended_stand : (s : Completion) → StandFor ring s G queue → StandFor ring (appended ring s g) (G ++ g ∷ []) after
      appended_stand s k =
          let is : s ≡ record { members = G; pairs = s.pairs } = λ t. record { members = k.members t; pairs = s.pairs } in
          subst (λ u. StandFor ring (appended ring u g) (G ++ g ∷ []) after) (sym is)
          (from_members s.pairs (subst (λ u. StandFor ring u G queue) is k))

-- a generator or a remainder that is not 0

pub generator_new : (ring : Ring) (s : Completion) (f g : List Term) → 0 < length f → g ≡ monic_of ring f
    → is_among g s.members ≡ false → with_generator ring s f ≡ appended ring s g
generator_new ring s [] g l e n = absurd (omega arith)
generator_new ring s (x ∷ f) g l e n =
    let k : is_among (monic_of ring (x ∷ f)) s.members ≡ false = ap (λ h. is_among h s.members) (sym e) ∙ n in
    ap (λ b. cond b s (appended ring s (monic_of ring (x ∷ f)))) k ∙ ap (λ h. appended ring s h) (sym e)

pub generator_there : (ring : Ring) (s : Completion) (f g : List Term) → 0 < length f
    → g ≡ monic_of ring f → is_among g s.members ≡ true → with_generator ring s f ≡ s
generator_there ring s [] g l e n = absurd (omega arith)
generator_there ring s (x ∷ f) g l e n =
    let k : is_among (monic_of ring (x ∷ f)) s.members ≡ true = ap (λ h. is_among h s.members) (sym e) ∙ n in
    ap (λ b. cond b s (appended ring s (monic_of ring (x ∷ f)))) k

pub remainder_new : (ring : Ring) (s : Completion) (f g : List Term) → 0 < length f → g ≡ monic_of ring f → with_remainder ring s f ≡ appended ring s g
remainder_new ring s [] g l e = absurd (omega arith)
remainder_new ring s (x ∷ f) g l e = ap (λ h. appended ring s h) (sym e)
