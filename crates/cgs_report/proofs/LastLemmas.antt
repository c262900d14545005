-- The last place of the walk: up to which exponent no leading monomial divides.
use Rattle.std.proofs.Common.{ℕ, ◌≡◌, ◌+◌, ◌<◌, ◌≤◌, ◌||◌, ◌&&◌, nat_le, min, Bool, true, false, cond, List, [], ◌∷◌, ◌++◌, length, take}
use Rattle.std.proofs.Common.{drop, get_or, refl, sym, ap, ◌∙◌, arith}
use Rattle.std.proofs.lemmas.Bool.{lt-leb}
use Rattle.std.proofs.lemmas.Bool.Decides.{nat_tests}
use Rattle.cgs_exps.specs.Monomial.{divides}
use Rattle.cgs_poly.specs.Ring.{Ring}
use Rattle.cgs_poly.specs.Polynomial.{Term}
use Rattle.cgs_report.specs.Standard.{leads_x, has_divisor}
use Rattle.cgs_report.specs.Laws.{HavePlaces}
use Rattle.cgs_report.specs.Walk.{last_of, least_last, lead_last}
use Rattle.cgs_report.proofs.LeadLemmas.{at_place}

pub least_low : (p : List ℕ) (L : List (List ℕ)) → least_last p L ≤ 32768
least_low p [] = omega arith
least_low p (l ∷ L) = let b = least_low p L in omega (arith, b)

-- one polynomial more
pub least_step : (ring : Ring) (p : List ℕ) (f : List Term) (G : List (List Term)) (least : ℕ)
    → min (min least (lead_last ring p f)) (least_last p (leads_x ring G)) ≡ min least (least_last p (leads_x ring (f ∷ G)))
least_step ring p [] G least = let b = least_low p (leads_x ring G) in omega (arith, b)
least_step ring p (y ∷ f) G least = omega arith

pub least_at : (ring : Ring) (p : List ℕ) (G : List (List Term)) (i : ℕ) (f : List Term) (least : ℕ) → i < length G → f ≡ get_or G i f
    → min (min least (lead_last ring p f)) (least_last p (leads_x ring (drop (i + 1) G))) ≡ min least (least_last p (leads_x ring (drop i G)))
least_at ring p G i f least l e =
    least_step ring p f (drop (i + 1) G) least ∙ ap (λ H. min least (least_last p (leads_x ring H))) (sym (at_place G i f l e))

above : (e : ℕ) → e < 32768 → nat_le 32768 e ≡ false
above e l = lt-leb 32768 e l

last_divides : (p l : List ℕ) (e : ℕ) → length l ≡ length p + 1 → e < 32768 → divides l (p ++ e ∷ []) ≡ nat_le (last_of p l) e
last_divides [] [] e n b = absurd (omega arith)
last_divides [] (x ∷ []) e n b = by_test (nat_le x e)
  where
    by_test : (t : Bool) → (t && true) ≡ t
    by_test true = refl
    by_test false = refl
last_divides [] (x ∷ z ∷ l) e n b = absurd (omega arith)
last_divides (y ∷ p) [] e n b = absurd (omega arith)
last_divides (y ∷ p) (x ∷ l) e n b = by_test (nat_le x y) (last_divides p l e (omega arith) b)
  where
    by_test : (t : Bool) → divides l (p ++ e ∷ []) ≡ nat_le (last_of p l) e
        → (t && divides l (p ++ e ∷ [])) ≡ nat_le (cond (t && divides (take (length p) l) p) (get_or l (length p) 0) 32768) e
    by_test true ih = ih
    by_test false ih = sym (above e b)

least_of_two : (a b e : ℕ) → (nat_le a e || nat_le b e) ≡ nat_le (min a b) e
least_of_two a b e = grind (arith, nat_tests)

pub least_divides : (p : List ℕ) (L : List (List ℕ)) (e : ℕ) → HavePlaces (length p + 1) L → e < 32768
    → has_divisor L (p ++ e ∷ []) ≡ nat_le (least_last p L) e
least_divides p [] e h b = sym (above e b)
least_divides p (l ∷ L) e h b =
    ap (λ t. t || has_divisor L (p ++ e ∷ [])) (last_divides p l e h.0 b)
    ∙ (ap (λ t. nat_le (last_of p l) e || t) (least_divides p L e h.1 b) ∙ least_of_two (last_of p l) (least_last p L) e)
