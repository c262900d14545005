-- The entries of a*x - 1 modulo 7, and lists that are none.
use Rattle.std.proofs.Common.{ℕ, zero, suc, ◌≡◌, ◌+◌, ◌*◌, ◌%◌, ◌<◌, Bool, true, false, List, [], ◌∷◌, length, map, refl, sym, ap, ◌∙◌, subst}
use Rattle.std.proofs.Common.{arith, eqb}
use Rattle.cgs_order.specs.TermOrder.{key, compared}
use Rattle.std.proofs.Math.Nat.{add-mul-mod_self_right}
use Rattle.std.specs.Prelude.{AllPairs}
use Rattle.cgs_exps.specs.Monomial.{divides}
use Rattle.cgs_exps.proofs.MonomialLemmas.{product_comm, one_product, divides_product}
use Rattle.cgs_poly.specs.Product.{leading_monomial}
use Rattle.cgs_poly.specs.Polynomial.{Term, IsCanonical, term}
use Rattle.cgs_poly.specs.Parameters.{value_at, variables_ring, specialised_terms, specialised}
use Rattle.cgs_poly.proofs.CanonicalLemmas.{is_canonical}
use Rattle.cgs_poly.proofs.MultipleLemmas.{lead_length}
use Rattle.cgs_algebra.specs.Combination.{IsMember}
use Rattle.cgs_algebra.specs.Groebner.{IsMinimal, HaveLeadsApart}
use Rattle.cgs_algebra.specs.Specialisation.{IsParametric}
use Rattle.cgs_algebra.proofs.MemberLemmas.{scaled_member, generator_member}
use Rattle.cgs_point.specs.Points.{IsPoint}
use Rattle.cgs_entry.specs.Conditions.{IsInRegion}
use Rattle.cgs_entry.specs.declared.entry.Entry.{Entry}
use Rattle.cgs_entry.specs.Entries.{IsBasisAt, IsSound, IsComprehensive, entries_at}
use Rattle.cgs_entry.specs.Examples.{seven, only_a, only_x, one, line, line_times_a, solved, LineIsSolved, GapIsRefused, OverlapIsRefused, WrongBasisIsRefused}
use Rattle.cgs_entry.specs.Examples.{line_times_x, VanishingLeadIsRefused, RepeatedLeadIsRefused, DividedLeadIsRefused}
use Rattle.cgs_entry.specs.Examples.{NoCoefficientIsRefused, TurnedTermsAreRefused, VariableInConditionIsRefused}
use Rattle.std.specs.declared.cmp.Ordering.TheVariants.{Less, Greater}
use Rattle.cgs_entry.proofs.SingleLemmas.{single_minimal}
use Rattle.cgs_algebra.proofs.PlaceLemmas.{lead_at_place, only_lead}

is_point : (n : ℕ) → n < 7 → IsPoint seven (n ∷ [])
is_point n l = record { places = refl; below = (l, tt) }

-- a point is one number below 7
by_number : (P : List ℕ → Type 0) → ((n : ℕ) → n < 7 → P (n ∷ [])) → (a : List ℕ) → IsPoint seven a → P a
by_number P h [] p = absurd (let l = p.places in omega arith)
by_number P h (n ∷ []) p = h n p.below.0
by_number P h (n ∷ m ∷ a) p = absurd (let l = p.places in omega arith)

pub gap_refused : GapIsRefused
gap_refused h = let e = h.cover (0 ∷ []) (is_point 0 (omega arith)) in let z : ◌≡◌ {A = ℕ} 0 1 = e in omega arith

pub overlap_refused : OverlapIsRefused
overlap_refused h = let e = h.cover (1 ∷ []) (is_point 1 (omega arith)) in let z : ◌≡◌ {A = ℕ} 2 1 = e in omega arith

pub vanishing_lead_refused : VanishingLeadIsRefused
vanishing_lead_refused h =
    let s : IsBasisAt seven (0 ∷ []) (line ∷ []) (line ∷ []) = h.sound.0.serves.at (0 ∷ []) (is_point 0 (omega arith)) (record { vanish = tt; stand = tt }) in
    s.leading.0 refl

-- at the point 1 the leads of two members of a basis are apart

module _ (first second : List Term) where
  abbrev with_two : List Entry
  with_two = solved 0 [] (only_a ∷ []) (first ∷ second ∷ []) ∷ solved 1 (only_a ∷ []) [] (one ∷ []) ∷ []

  abbrev at_one : List (List Term)
  at_one = specialised seven (1 ∷ []) first ∷ specialised seven (1 ∷ []) second ∷ []

  leads_apart : IsComprehensive seven [] [] (line ∷ []) with_two → AllPairs HaveLeadsApart at_one
  leads_apart h =
      let inside : IsInRegion seven [] (only_a ∷ []) (1 ∷ []) = record { vanish = tt; stand = (λ e. cc, tt) } in
      let s : IsBasisAt seven (1 ∷ []) (line ∷ []) (first ∷ second ∷ []) = h.sound.0.serves.at (1 ∷ []) (is_point 1 (omega arith)) inside in
      s.minimal.apart

pub repeated_lead_refused : RepeatedLeadIsRefused
unfolding key compared
repeated_lead_refused h = (leads_apart line line_times_a h 0 1 [] (omega arith) (omega arith)).0 refl

pub divided_lead_refused : DividedLeadIsRefused
unfolding key compared
divided_lead_refused h = (leads_apart line line_times_x h 0 1 [] (omega arith) (omega arith)).0 refl

-- 7 is no coefficient
pub no_coefficient_refused : NoCoefficientIsRefused
no_coefficient_refused h = let third = h.sound.0.serves.canonical.0.4.4 in omega (arith, third.1)

-- the second monomial is above the first
pub turned_terms_refused : TurnedTermsAreRefused
unfolding key compared
turned_terms_refused h = let falls : Greater ≡ Less = h.sound.0.serves.canonical.0.3 in cc

-- the exponent of x is 1
pub variable_in_condition_refused : VariableInConditionIsRefused
variable_in_condition_refused = (
  λ h. let free : ◌≡◌ {A = List ℕ} (1 ∷ []) (0 ∷ []) = h.sound.0.nonzero.0.free.0 in cc,
  λ h. let free : ◌≡◌ {A = List ℕ} (1 ∷ []) (0 ∷ []) = h.sound.1.0.zero.0.free.0 in cc,
)

-- what holds of 0 to 6 holds of each number below 7
at_seven : (P : ℕ → Type 0) → P 0 → P 1 → P 2 → P 3 → P 4 → P 5 → P 6 → (n : ℕ) → n < 7 → P n
at_seven P a b c d e f g zero l = a
at_seven P a b c d e f g (suc zero) l = b
at_seven P a b c d e f g (suc (suc zero)) l = c
at_seven P a b c d e f g (suc (suc (suc zero))) l = d
at_seven P a b c d e f g (suc (suc (suc (suc zero)))) l = e
at_seven P a b c d e f g (suc (suc (suc (suc (suc zero))))) l = f
at_seven P a b c d e f g (suc (suc (suc (suc (suc (suc zero)))))) l = g
at_seven P a b c d e f g (suc (suc (suc (suc (suc (suc (suc n))))))) l = absurd (omega arith)

abbrev six : List Term
six = term 6 (0 ∷ []) ∷ []

line_at_zero : specialised seven (0 ∷ []) line ≡ six
unfolding key compared
line_at_zero = refl

six_member : IsMember (variables_ring seven) (map (specialised seven (0 ∷ [])) (line ∷ [])) six
six_member =
    subst (λ f. IsMember (variables_ring seven) (f ∷ []) six) (sym line_at_zero)
    (generator_member (variables_ring seven) (six ∷ []) (omega arith) 0 (omega arith) (refl, tt))

pub wrong_basis_refused : WrongBasisIsRefused
unfolding key compared
wrong_basis_refused h =
    let inside : IsInRegion seven (only_a ∷ []) [] (0 ∷ []) = record { vanish = (refl, tt); stand = tt } in
    let s : IsBasisAt seven (0 ∷ []) (line ∷ []) (only_x ∷ []) = h.sound.1.0.serves.at (0 ∷ []) (is_point 0 (omega arith)) inside in
    let d = s.minimal.groebner.leads six (omega arith, omega arith, refl, tt, tt) six_member (λ e. cc) in
    let e = only_lead (term 1 (1 ∷ []) ∷ []) (leading_monomial six) d in cc

-- the line is solved

cover_at : (n : ℕ) (b : Bool) → eqb (value_at seven (n ∷ []) only_a) 0 ≡ b
    → entries_at seven (n ∷ []) (solved 0 [] (only_a ∷ []) (line ∷ []) ∷ solved 1 (only_a ∷ []) [] (one ∷ []) ∷ []) ≡ 1
cover_at n true e = rw e refl
cover_at n false e = rw e refl

some_at : (n : ℕ) → n < 7 → ¬ (specialised seven (n ∷ []) line ≡ [])
unfolding key compared
some_at n l = at_seven (λ n. ¬ (specialised seven (n ∷ []) line ≡ [])) (λ e. cc) (λ e. cc) (λ e. cc) (λ e. cc) (λ e. cc) (λ e. cc) (λ e. cc) n l

line_serves : (n : ℕ) → n < 7 → ¬ (value_at seven (n ∷ []) only_a ≡ 0) → IsBasisAt seven (n ∷ []) (line ∷ []) (line ∷ [])
line_serves n l h = record {
  leading = (h, tt);
  minimal = single_minimal (variables_ring seven) (record { modulus = refl; some = omega arith; variables = omega arith; parameters = omega arith })
      (specialised seven (n ∷ []) line)
      (is_canonical (variables_ring seven) (specialised_terms seven (n ∷ []) line) (omega arith) (refl, (refl, tt))) (some_at n l);
}

abbrev one_at_zero : List Term
one_at_zero = term 1 (0 ∷ []) ∷ []

one_divides : (x : List ℕ) → length x ≡ 1 → divides (0 ∷ []) x ≡ true
one_divides x l = subst (λ m. divides (0 ∷ []) m ≡ true) (product_comm x (0 ∷ []) ∙ one_product 1 x l) (divides_product x (0 ∷ []))

thirty_six : (n : ℕ) → (1 * n + 0) % 7 ≡ (6 * (6 * n + 0)) % 7
thirty_six n =
    let a : 1 * n + 0 ≡ n = omega arith in
    let b : 6 * (6 * n + 0) ≡ n + (5 * n) * 7 = omega arith in
    ap (λ k. k % 7) a ∙ (sym (add-mul-mod_self_right n (5 * n) 7) ∙ ap (λ k. k % 7) (sym b))

one_minimal : IsMinimal (variables_ring seven) (one_at_zero ∷ []) (six ∷ [])
one_minimal = record {
  groebner = record {
    canonical = ((omega arith, omega arith, refl, tt, tt), tt);
    members = (
      scaled_member (variables_ring seven) (six ∷ []) (omega arith) 6 six one_at_zero (λ w. thirty_six (w (0 ∷ [])))
          (generator_member (variables_ring seven) (six ∷ []) (omega arith) 0 (omega arith) (refl, tt)),
      tt,
    );
    not_zero = (λ e. cc, tt);
    leads = λ f k m some.
        lead_at_place (one_at_zero ∷ []) (leading_monomial f) 0 (omega arith)
        (one_divides (leading_monomial f) (lead_length (variables_ring seven) f k some));
  };
  apart = λ i j d l k. absurd (omega (arith, l, k));
}

one_serves : IsBasisAt seven (0 ∷ []) (line ∷ []) (one ∷ [])
one_serves = record {
  leading = (λ e. let z : ◌≡◌ {A = ℕ} 1 0 = e in omega arith, tt);
  minimal = subst (λ f. IsMinimal (variables_ring seven) (one_at_zero ∷ []) (f ∷ [])) (sym line_at_zero) one_minimal;
}

unless_zero : (n : ℕ) → n < 7 → value_at seven (n ∷ []) only_a ≡ 0 → IsBasisAt seven (n ∷ []) (line ∷ []) (one ∷ [])
unless_zero n l =
    at_seven (λ n. value_at seven (n ∷ []) only_a ≡ 0 → IsBasisAt seven (n ∷ []) (line ∷ []) (one ∷ []))
    (λ e. one_serves) (λ e. absurd (not_zero 0 e)) (λ e. absurd (not_zero 1 e)) (λ e. absurd (not_zero 2 e))
    (λ e. absurd (not_zero 3 e)) (λ e. absurd (not_zero 4 e)) (λ e. absurd (not_zero 5 e)) n l
  where
    not_zero : (k : ℕ) → suc k ≡ 0 → ⊥
    not_zero k e = omega arith

a_parametric : IsParametric seven only_a
a_parametric = record { canonical = (omega arith, omega arith, refl, tt, tt); free = (refl, tt) }

pub line_canonical : IsCanonical seven line
unfolding key compared
line_canonical = (omega arith, omega arith, refl, refl, (omega arith, omega arith, refl, tt, tt))

pub line_solved : LineIsSolved
line_solved = record {
  cover = by_number (λ a. entries_at seven a (solved 0 [] (only_a ∷ []) (line ∷ []) ∷ solved 1 (only_a ∷ []) [] (one ∷ []) ∷ []) ≡ 1)
      (λ n l. cover_at n (eqb (value_at seven (n ∷ []) only_a) 0) refl);
  sound = (first_sound, (second_sound, tt));
}
  where
    first_sound : IsSound seven (line ∷ []) (solved 0 [] (only_a ∷ []) (line ∷ []))
    first_sound = record {
      zero = tt;
      nonzero = (a_parametric, tt);
      serves = record {
        canonical = (line_canonical, tt);
        at = by_number (λ a. IsInRegion seven [] (only_a ∷ []) a → IsBasisAt seven a (line ∷ []) (line ∷ [])) (λ n l inside. line_serves n l inside.stand.0);
      };
    }

    second_sound : IsSound seven (line ∷ []) (solved 1 (only_a ∷ []) [] (one ∷ []))
    second_sound = record {
      zero = (a_parametric, tt);
      nonzero = tt;
      serves = record {
        canonical = ((omega arith, omega arith, refl, tt, tt), tt);
        at = by_number (λ a. IsInRegion seven (only_a ∷ []) [] a → IsBasisAt seven a (line ∷ []) (one ∷ [])) (λ n l inside. unless_zero n l inside.vanish.0);
      };
    }
