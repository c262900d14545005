-- The polynomial 1 by its parts.
use Rattle.std.proofs.Common.{ℕ, ◌≡◌, ◌==◌, ◌&&◌, Some, List, [], ◌∷◌, length, replicate, refl, sym, ap, ◌∙◌, arith}
use Rattle.std.specs.List.{slice_get}
use Rattle.std.specs.Str.{bytes_eq}
use Rattle.std.proofs.Math.Bool.{and-true}
use Rattle.cgs_poly.specs.Ring.{Ring}
use Rattle.cgs_poly.specs.Polynomial.{Term, term, places, one, IsCanonical}
use Rattle.cgs_poly.specs.Same.{same_poly}
use Rattle.cgs_report.specs.Box.{is_one}

-- exponents that are all 0
zeros_listed : (m : List ℕ) → is_one m ≡ bytes_eq m (replicate (length m) 0)
zeros_listed [] = refl
zeros_listed (x ∷ m) = ap (λ b. x == 0 && b) (zeros_listed m)

-- a polynomial of one term
pub one_by_parts : (ring : Ring) (f : List Term) (c : ℕ) (m : List ℕ) → IsCanonical ring f → length f ≡ 1 → slice_get f 0 ≡ Some (term c m)
    → (c == 1 && is_one m) ≡ same_poly f (one ring)
one_by_parts ring [] c m k l e = absurd (omega arith)
one_by_parts ring (x ∷ []) c m k l e =
    let s : x ≡ term c m = cc in
    let long : length m ≡ places ring = sym (ap (λ y. length y.exponents) s) ∙ k.2 in
    let zeros : is_one m ≡ bytes_eq m (replicate (places ring) 0) = zeros_listed m ∙ ap (λ n. bytes_eq m (replicate n 0)) long in
    rw s (ap (λ b. c == 1 && b) zeros ∙ sym (and-true (c == 1 && bytes_eq m (replicate (places ring) 0))))
one_by_parts ring (x ∷ y ∷ f) c m k l e = absurd (omega arith)
