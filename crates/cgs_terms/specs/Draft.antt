-- Terms as they are put together in two flat lists.
use Rattle.std.specs.Prelude.{ℕ, ◌≡◌, ◌≤◌, ◌+◌, ◌*◌, List, ◌++◌, length, vec_len, vec_capacity}
use Rattle.std.specs.List.{AllByRecursion}
use Rattle.cgs_terms.specs.declared.draft.Draft.{Draft}
use Rattle.cgs_terms.specs.Polynomial.{Term}
use Rattle.cgs_terms.specs.Flat.{terms_of}

abbrev pub terms_in : Draft → List Term
terms_in draft = terms_of draft.places draft.coefficients.items draft.exponents.items

-- so many exponents for each coefficient as there are places
abbrev pub IsFlat : Draft → Type 0
IsFlat draft = length draft.exponents.items ≡ length draft.coefficients.items * draft.places

-- there is room for n further terms
pub record HasRoom (draft : Draft) (n : ℕ) : Type 0 where
  pub coefficients : vec_len draft.coefficients + n ≤ vec_capacity draft.coefficients
  pub exponents : vec_len draft.exponents + n * draft.places ≤ vec_capacity draft.exponents

-- each monomial has so many exponents
abbrev pub HaveLength : ℕ → List Term → Type 0
HaveLength places f = AllByRecursion (λ x. length x.exponents ≡ places) f

-- the second draft is the first with f at its end
pub record Appended (first second : Draft) (f : List Term) : Type 0 where
  pub flat : IsFlat second
  pub places : second.places ≡ first.places
  pub terms : terms_in second ≡ terms_in first ++ f
