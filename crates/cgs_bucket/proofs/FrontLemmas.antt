-- The search for the greatest leading_monomial.
use Rattle.std.proofs.Common.{ℕ, ◌≡◌, ◌<◌, ◌+◌, ◌==◌, Bool, true, false, Option, Some, None, List, [], ◌∷◌, length, get_or, refl, sym, ap, ◌∙◌, subst, arith}
use Rattle.std.proofs.lemmas.Bool.{eqb-true, eqb-false}
use Rattle.std.proofs.lemmas.List.{get_or_read, nil_from_length}
use Rattle.cgs_order.proofs.OrderLemmas.{compared_back}
use Rattle.cgs_order.specs.TermOrder.{compared}
use Rattle.cgs_terms.specs.declared.ring.Ring.{Ring}
use Rattle.cgs_terms.specs.Polynomial.{Term, StartsBelow, order_of}
use Rattle.cgs_terms.specs.Product.{leading_monomial}
use Rattle.cgs_terms.proofs.CanonicalLemmas.{starts_lower}
use Rattle.std.specs.declared.cmp.Ordering.TheVariants.{Less, Greater}

-- of the levels before k, the one at b starts with the greatest monomial
pub record IsBest (ring : Ring) (levels : List (List Term)) (k b : ℕ) : Type 0 where
  pub within : b < k
  pub some : 0 < length (get_or levels b [])
  pub others : (i : ℕ) → i < k → ¬ (i ≡ b) → StartsBelow ring (leading_monomial (get_or levels b [])) (get_or levels i [])

-- what is known of the levels before k
abbrev pub SoFar : Ring → List (List Term) → ℕ → Option ℕ → Type 0
SoFar ring levels k None = (i : ℕ) → i < k → get_or levels i [] ≡ []
SoFar ring levels k (Some b) = IsBest ring levels k b

starts_empty : (ring : Ring) (m : List ℕ) (f : List Term) → f ≡ [] → StartsBelow ring m f
starts_empty ring m [] e = tt
starts_empty ring m (x ∷ f) e = absurd (cc)

starts_of : (ring : Ring) (m : List ℕ) (f : List Term) → compared (order_of ring) (leading_monomial f) m ≡ Less → StartsBelow ring m f
starts_of ring m [] e = tt
starts_of ring m (x ∷ f) e = e

step : (P : ℕ → Type 0) (k i : ℕ) → i < k + 1 → ((j : ℕ) → j < k → P j) → P k → P i
step P k i l h here = by_cases (i == k) refl
  where
    by_cases : (b : Bool) → (i == k) ≡ b → P i
    by_cases true e = subst P (sym (eqb-true i k e)) here
    by_cases false e = h i (let n = eqb-false i k e in omega (arith, n))

module _ (ring : Ring) (levels : List (List Term)) (k : ℕ) where
  pub none_more : ((i : ℕ) → i < k → get_or levels i [] ≡ []) → get_or levels k [] ≡ [] → (i : ℕ) → i < k + 1 → get_or levels i [] ≡ []
  none_more h e i l = step (λ j. get_or levels j [] ≡ []) k i l h e

  pub best_first : ((i : ℕ) → i < k → get_or levels i [] ≡ []) → 0 < length (get_or levels k []) → IsBest ring levels (k + 1) k
  best_first h s = record {
    within = omega arith;
    some = s;
    others = λ i l n. starts_empty ring (leading_monomial (get_or levels k [])) (get_or levels i []) (h i (omega (arith, n)));
  }

  module _ (b : ℕ) (best : IsBest ring levels k b) where
    pub best_stays : StartsBelow ring (leading_monomial (get_or levels b [])) (get_or levels k []) → IsBest ring levels (k + 1) b
    best_stays s = record {
      within = omega (arith, best.within);
      some = best.some;
      others = λ i l. step (λ j. ¬ (j ≡ b) → StartsBelow ring (leading_monomial (get_or levels b [])) (get_or levels j [])) k i l best.others (λ n. s);
    }

    pub best_empty : get_or levels k [] ≡ [] → IsBest ring levels (k + 1) b
    best_empty e = best_stays (starts_empty ring (leading_monomial (get_or levels b [])) (get_or levels k []) e)

    pub best_less : compared (order_of ring) (leading_monomial (get_or levels k [])) (leading_monomial (get_or levels b [])) ≡ Less
        → IsBest ring levels (k + 1) b
    best_less e = best_stays (starts_of ring (leading_monomial (get_or levels b [])) (get_or levels k []) e)

    pub best_greater : compared (order_of ring) (leading_monomial (get_or levels k [])) (leading_monomial (get_or levels b [])) ≡ Greater
        → 0 < length (get_or levels k []) → IsBest ring levels (k + 1) k
    best_greater e s =
        let d : compared (order_of ring) (leading_monomial (get_or levels b [])) (leading_monomial (get_or levels k [])) ≡ Less =
        compared_back (order_of ring) (leading_monomial (get_or levels k [])) (leading_monomial (get_or levels b [])) e in
        record {
          within = omega arith;
          some = s;
          others = λ i l n. by_cases i (omega (arith, n)) (i == b) refl d;
        }
      where
        by_cases : (i : ℕ) → i < k → (t : Bool) → (i == b) ≡ t → compared (order_of ring) (leading_monomial (get_or levels b []))
            (leading_monomial (get_or levels k [])) ≡ Less → StartsBelow ring (leading_monomial (get_or levels k [])) (get_or levels i [])
        by_cases i l true q d = subst (λ j. StartsBelow ring (leading_monomial (get_or levels k [])) (get_or levels j [])) (sym (eqb-true i b q))
            (starts_of ring (leading_monomial (get_or levels k [])) (get_or levels b []) d)
        by_cases i l false q d = starts_lower ring (leading_monomial (get_or levels b [])) (leading_monomial (get_or levels k [])) (get_or levels i [])
            (best.others i l (eqb-false i b q)) d

pub so_far_empty : (ring : Ring) (levels : List (List Term)) (k : ℕ) (o : Option ℕ) → SoFar ring levels k o → get_or levels k [] ≡ []
    → SoFar ring levels (k + 1) o
so_far_empty ring levels k None h e = none_more ring levels k h e
so_far_empty ring levels k (Some b) h e = best_empty ring levels k b h e

pub some_level : (levels : List (List Term)) (k n : ℕ) (x : List Term) → k < length levels → x ≡ get_or levels k x → n ≡ length x → (n ≡ 0 → ⊥)
    → 0 < length (get_or levels k [])
some_level levels k n x l e q h = let s = ap length (get_or_read levels k x l e []) in omega (arith, s, h)

pub no_level : (levels : List (List Term)) (k n : ℕ) (x : List Term) → k < length levels → x ≡ get_or levels k x → n ≡ length x → n ≡ 0
    → get_or levels k [] ≡ []
no_level levels k n x l e q h = sym (get_or_read levels k x l e []) ∙ nil_from_length x (omega arith)

pub first_best : (ring : Ring) (levels : List (List Term)) (k : ℕ) (o : Option ℕ) → SoFar ring levels k o → ((b : ℕ) → o ≡ Some b → ⊥)
    → 0 < length (get_or levels k []) → IsBest ring levels (k + 1) k
first_best ring levels k None h n s = best_first ring levels k h s
first_best ring levels k (Some b) h n s = absurd (n b refl)
