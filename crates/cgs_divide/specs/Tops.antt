-- The greatest degrees of polynomials behind their leads, as far as they are known.
use Rattle.std.specs.Prelude.{ℕ, ◌≡◌, Option, List, [], ◌∷◌, drop, IfSome}
use Rattle.cgs_poly.specs.Polynomial.{Term}
use Rattle.cgs_poly.specs.Product.{top_degree}

-- the greatest degree of a monomial behind the lead
abbrev pub top_behind_lead : List Term → ℕ
top_behind_lead g = top_degree (drop 1 g)

-- there is a place for each polynomial, and what is known there is this degree
abbrev pub AreTops : List (List Term) → List (Option ℕ) → Type 0
AreTops [] [] = Unit {0}
AreTops [] (top ∷ tops) = ⊥
AreTops (g ∷ G) [] = ⊥
AreTops (g ∷ G) (top ∷ tops) = IfSome top (λ degree. degree ≡ top_behind_lead g) × AreTops G tops
