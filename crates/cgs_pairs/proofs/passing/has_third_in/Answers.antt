use Rattle.std.proofs.Common.{ℕ, ◌≡◌, ◌≢◌, ◌+◌, ◌*◌, ◌<◌, ◌⊎◌, inl, inr, length, sym, ap, ◌∙◌, subst, arith}
use Rattle.std.specs.Int.{w64, bit_at, trailing_zeros}
use Rattle.std.proofs.lemmas.Bool.{cases_eq, true≢false}
use Rattle.cgs_poly.specs.Polynomial.{places}
use Rattle.cgs_poly.proofs.RingLemmas.{places_few}
use Rattle.cgs_pairs.specs.Passed.{IsThirdPlace}
use Rattle.cgs_pairs.proofs.PassedLemmas.{member_monic, member_places, member_third, lcm_places, third_found}
use Rattle.cgs_pairs.proofs.TableLemmas.{lowest_within, cleared, cleared_less, cleared_other}
use Rattle.cgs_pairs.proofs.passing.has_third_in.Goals as goal
use Rattle.cgs_pairs.proofs.passing.has_third_in.Goals.{After-get, Joined-else-k-end, else-k-end-via-then-k-end+else-is_third, else-k-end-via-else-k-end}

pub overflow_mul-k : goal.overflow_mul-k
overflow_mul-k c = omega (arith, c.requires.within, c.len-end.ensures)

pub overflow_add-k : goal.overflow_add-k
overflow_add-k c =
    omega (arith, c.requires.within, c.len-end.ensures, lowest_within c.loop-rest.rest c.loop-rest-test.true (omega (arith, c.loop-rest.auto.rest-fits)))

abbrev place : After-get → ℕ
place c = 64 * c.args.block + trailing_zeros w64 c.loop-rest.rest

within : (c : After-get) → place c < length c.args.members.now
within c = omega (arith, c.if-k-end.true, c.len-end.ensures)

long : (c : After-get) → length c.args.pair.now.lcm ≡ places c.requires.ring.ring
long c =
    ap length c.requires.lcm
    ∙ lcm_places c.args.members.now c.requires.ring c.args.pair.now.smaller c.args.pair.now.larger c.requires.smaller c.requires.larger

pub is_third-requires-clause-monic : goal.is_third-requires-clause-monic
is_third-requires-clause-monic c = member_monic c.args.members.now c.requires.ring (place c) c.get.result.now (within c) c.get.ensures

pub is_third-requires-clause-same_places : goal.is_third-requires-clause-same_places
is_third-requires-clause-same_places c =
    member_places c.args.members.now c.requires.ring (place c) c.get.result.now (within c) c.get.ensures ∙ sym (long c)

pub is_third-requires-clause-places : goal.is_third-requires-clause-places
is_third-requires-clause-places c = omega (arith, long c, places_few c.requires.ring.ring c.requires.ring.valid)

pub returns-then-is_third-clause-found : goal.returns-then-is_third-clause-found
returns-then-is_third-clause-found c _ =
    let at = (goal.at.returns-then-is_third-clause-found c).After-get in
    third_found c.args.pair.now c.args.taken.now c.args.members.now (place at) (
      within at,
      member_third c.args.members.now c.requires.ring (place at) c.get.result.now (within at) c.get.ensures c.args.pair.now c.args.taken.now
          ∙ (sym c.is_third.ensures ∙ c.if-is_third.true),
    )

pub loop-rest-smaller : goal.loop-rest-smaller
loop-rest-smaller c = cleared_less c.loop-rest.rest c.loop-rest-test.true (omega (arith, c.loop-rest.auto.rest-fits))

abbrev bit : Joined-else-k-end → ℕ
bit c = trailing_zeros w64 c.loop-rest.rest

-- the place that was tried
is_none : (c : Joined-else-k-end) → IsThirdPlace c.args.pair.now c.args.members.now c.args.taken.now (64 * c.args.block + bit c) → ⊥
is_none c t = elim c.else-k-end.branch [
  | else-k-end-via-then-k-end+else-is_third w ↦
      true≢false (sym t.1
      ∙ (member_third c.args.members.now c.requires.ring (64 * c.args.block + bit c) w.get.result.now t.0 w.get.ensures c.args.pair.now c.args.taken.now
      ∙ (sym w.is_third.ensures ∙ w.if-is_third.false)))
  | else-k-end-via-else-k-end w ↦ omega (arith, t.0, w.if-k-end.false, c.len-end.ensures)
]

pub loop-rest-preserved : goal.loop-rest-preserved
loop-rest-preserved c i l t = by_case (cases_eq i (bit c))
  where
    by_case : (i ≡ bit c) ⊎ (i ≢ bit c) → bit_at (cleared c.loop-rest.rest) i ≡ 1
    by_case (inl e) = absurd (is_none c (subst (λ n. IsThirdPlace c.args.pair.now c.args.members.now c.args.taken.now (64 * c.args.block + n)) e t))
    by_case (inr n) =
        cleared_other c.loop-rest.rest c.loop-rest-test.true (omega (arith, c.loop-rest.auto.rest-fits)) i l n ∙ c.loop-rest.invariant i l t
