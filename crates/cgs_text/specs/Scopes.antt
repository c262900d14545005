-- What a polynomial is read with, and the products on the way.
use Rattle.std.specs.Prelude.{◌≡◌, ◌<◌, ◌≤◌, ◌-◌, ℕ, List, length, take, replicate, Option, Some, None}
use Rattle.std.specs.List.{AllByRecursion}
use Rattle.cgs_exps.specs.Monomial.{degree}
use Rattle.cgs_poly.specs.Polynomial.{Term, IsRing, places, greatest_degree}
use Rattle.cgs_tokens.specs.Lexemes.{Lexeme, plus, minus}
use Rattle.cgs_problem.specs.Sums.{Reader}
use Rattle.cgs_text.specs.declared.scope.Scope.{Scope}

-- the same as the definition has it
abbrev pub reader_in : Scope → Reader
reader_in scope = record { ring = scope.ring.now; names = scope.names.now; barred = scope.barred; most = scope.most }

-- a name for each place, and limits within those of polynomials
pub record IsReader (reader : Reader) : Type 0 where
  pub ring : IsRing reader.ring
  pub named : length reader.names ≡ places reader.ring
  pub barred : reader.barred ≤ places reader.ring
  pub most : reader.most ≤ greatest_degree

-- a monomial within the limits, without the barred places
pub record IsMonomialFor (reader : Reader) (m : List ℕ) : Type 0 where
  pub low : degree m ≤ reader.most
  pub free : take reader.barred m ≡ replicate reader.barred 0

-- each monomial is so
abbrev pub HasTermsFor : Reader → List Term → Type 0
HasTermsFor reader f = AllByRecursion (λ (x : Term). IsMonomialFor reader x.exponents) f

-- a product within the limits
pub record IsProduct (reader : Reader) (product : Term) : Type 0 where
  pub below : product.coefficient < reader.ring.modulus
  pub places : length product.exponents ≡ places reader.ring
  pub monomial : IsMonomialFor reader product.exponents

-- 1 after a plus, and -1 after a minus
abbrev pub signed_one : ℕ → Lexeme → Option ℕ
signed_one p plus = Some 1
signed_one p minus = Some (p - 1)
signed_one p lexeme = None
