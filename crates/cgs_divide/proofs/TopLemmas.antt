-- The degrees that a division knows: none at first, then one for each divisor that was used.
use Rattle.std.proofs.Common.{ℕ, zero, suc, ◌≡◌, ◌-◌, Option, Some, None, List, [], ◌∷◌, ◌++◌, length, get_or, set, take, replicate, refl, ap, subst, arith}
use Rattle.std.specs.Prelude.{IfSome}
use Rattle.cgs_poly.specs.Polynomial.{Term}
use Rattle.cgs_divide.specs.Tops.{top_behind_lead, AreTops}

pub tops_length : (G : List (List Term)) (tops : List (Option ℕ)) → AreTops G tops → length tops ≡ length G
tops_length [] [] h = refl
tops_length [] (top ∷ tops) h = absurd h
tops_length (g ∷ G) [] h = absurd h
tops_length (g ∷ G) (top ∷ tops) h = ap suc (tops_length G tops h.1)

-- an empty list resized
pub resized : {X : Type 0} (x : X) (n : ℕ) → take n [] ++ replicate (n - 0) x ≡ replicate n x
resized x zero = refl
resized x (suc n) = let s : suc n - 0 ≡ suc n = omega arith in rw s refl

pub tops_unknown : (G : List (List Term)) → AreTops G (replicate (length G) None)
tops_unknown [] = tt
tops_unknown (g ∷ G) = (tt, tops_unknown G)

pub top_known : (G : List (List Term)) (tops : List (Option ℕ)) (i d : ℕ) → AreTops G tops → get_or tops i None ≡ Some d
    → d ≡ top_behind_lead (get_or G i [])
top_known [] [] i d h e = absurd (cc)
top_known [] (top ∷ tops) i d h e = absurd h
top_known (g ∷ G) [] i d h e = absurd h
top_known (g ∷ G) (top ∷ tops) zero d h e = subst (λ o. IfSome o (λ n. n ≡ top_behind_lead g)) e h.0
top_known (g ∷ G) (top ∷ tops) (suc i) d h e = top_known G tops i d h.1 e

pub tops_set : (G : List (List Term)) (tops : List (Option ℕ)) (i d : ℕ) → AreTops G tops → d ≡ top_behind_lead (get_or G i [])
    → AreTops G (set tops i (Some d))
tops_set [] [] i d h e = tt
tops_set [] (top ∷ tops) i d h e = absurd h
tops_set (g ∷ G) [] i d h e = absurd h
tops_set (g ∷ G) (top ∷ tops) zero d h e = (e, h.1)
tops_set (g ∷ G) (top ∷ tops) (suc i) d h e = (h.0, tops_set G tops i d h.1 e)
