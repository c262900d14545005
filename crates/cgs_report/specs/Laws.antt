-- The laws of standard monomials, as facts.
use Rattle.std.specs.Prelude.{ℕ, ◌≡◌, ◌<◌, ◌↔◌, ◌≤◌, List, length, IsTrue}
use Rattle.std.specs.List.{AllByRecursion}
use Rattle.cgs_report.specs.declared.standard.Standard.{Standard}
use Rattle.cgs_report.specs.declared.standard.Standard.TheVariants.{NotFinite, Many, Count}
use Rattle.cgs_report.specs.Standard.{AreFinite, HasExactly, IsStandard}
use Rattle.cgs_report.specs.Box.{has_power, most_counted, standard_monomials}

-- each monomial of the list has n exponents
abbrev pub HavePlaces : ℕ → List (List ℕ) → Type 0
HavePlaces n L = AllByRecursion (λ l. length l ≡ n) L

-- the standard monomials are finitely many exactly where each variable has a power, or 1, in the list
abbrev pub FiniteByPowers : Type 0
FiniteByPowers = (n : ℕ) (L : List (List ℕ)) → HavePlaces n L → ((i : ℕ) → i < n → IsTrue (has_power i L)) ↔ AreFinite (IsStandard n L)

-- then those in the box of the least powers are all of them
abbrev pub BoxHasAll : Type 0
BoxHasAll = (n : ℕ) (L : List (List ℕ)) → HavePlaces n L → AreFinite (IsStandard n L) → HasExactly (IsStandard n L) (standard_monomials n L)

-- and each list of exactly them has the same length
abbrev pub OneNumber : Type 0
OneNumber = (n : ℕ) (L M N : List (List ℕ)) → HasExactly (IsStandard n L) M → HasExactly (IsStandard n L) N → length M ≡ length N

-- what an answer says of the monomials of a kind
abbrev pub Tells : (List ℕ → Type 0) → Standard → Type 0
Tells IsOne NotFinite = ¬ AreFinite IsOne
Tells IsOne Many = (M : List (List ℕ)) × HasExactly IsOne M × (most_counted < length M)
Tells IsOne (Count k) = (M : List (List ℕ)) × HasExactly IsOne M × (length M ≡ k) × (k ≤ most_counted)

-- only one answer is true
abbrev pub OneAnswer : Type 0
OneAnswer = (n : ℕ) (L : List (List ℕ)) (s t : Standard) → Tells (IsStandard n L) s → Tells (IsStandard n L) t → s ≡ t
