-- Standard monomials: those in the variables that no leading monomial divides (Cox, Little, O'Shea, chapter 5, section 3).
use Rattle.std.specs.Prelude.{ℕ, ◌≡◌, Bool, false, List, [], ◌∷◌, length, bytes_eq, IsTrue}
use Rattle.std.specs.List.{AllByRecursion, IsDistinct, list_any}
use Rattle.cgs_exps.specs.Monomial.{divides}
use Rattle.cgs_poly.specs.Ring.{Ring}
use Rattle.cgs_poly.specs.Polynomial.{Term}
use Rattle.cgs_poly.specs.Parameters.{lead_x}

-- the variables' parts of the leading monomials; 0 has none
abbrev pub leads_x : Ring → List (List Term) → List (List ℕ)
leads_x ring [] = []
leads_x ring ([] ∷ G) = leads_x ring G
leads_x ring ((y ∷ f) ∷ G) = lead_x ring (y ∷ f) ∷ leads_x ring G

-- whether a monomial of the list divides m
abbrev pub has_divisor : List (List ℕ) → List ℕ → Bool
has_divisor L m = list_any (λ l. divides l m) L

-- a monomial in n variables that no monomial of L divides
pub record IsStandard (n : ℕ) (L : List (List ℕ)) (m : List ℕ) : Type 0 where
  pub places : length m ≡ n
  pub apart : has_divisor L m ≡ false

-- whether m stands in a list
abbrev pub is_listed : List ℕ → List (List ℕ) → Bool
is_listed m M = list_any (bytes_eq m) M

-- M has exactly the monomials of a kind, none of them twice
pub record HasExactly (IsOne : List ℕ → Type 0) (M : List (List ℕ)) : Type 0 where
  pub distinct : IsDistinct bytes_eq M
  pub each : AllByRecursion IsOne M
  pub all : (m : List ℕ) → IsOne m → IsTrue (is_listed m M)

-- the monomials of a kind are finitely many: some list has them all
pub record AreFinite (IsOne : List ℕ → Type 0) : Type 0 where
  pub monomials : List (List ℕ)
  pub all : (m : List ℕ) → IsOne m → IsTrue (is_listed m monomials)
