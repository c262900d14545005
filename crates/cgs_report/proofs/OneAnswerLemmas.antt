-- Only one answer on the standard monomials is true.
use Rattle.std.proofs.Common.{ℕ, ◌≡◌, ◌<◌, ◌≤◌, List, length, refl, sym, ap, ◌∙◌, arith}
use Rattle.cgs_report.specs.declared.standard.Standard.{Standard}
use Rattle.cgs_report.specs.declared.standard.Standard.TheVariants.{NotFinite, Many, Count}
use Rattle.cgs_report.specs.Standard.{IsStandard, AreFinite, HasExactly}
use Rattle.cgs_report.specs.Box.{most_counted}
use Rattle.cgs_report.specs.Laws.{Tells}
use Rattle.cgs_report.proofs.BoxLemmas.{one_number}

finite : (n : ℕ) (L M : List (List ℕ)) → HasExactly (IsStandard n L) M → AreFinite (IsStandard n L)
finite n L M h = record { monomials = M; all = h.all }

apart : (n : ℕ) (L : List (List ℕ)) (k : ℕ) → Tells (IsStandard n L) Many → Tells (IsStandard n L) (Count k) → ⊥
apart n L k a b =
    let e = one_number n L a.0 b.0 a.1 b.1 in
    let more : most_counted < length a.0 = a.2 in
    let few : k ≤ most_counted = b.3 in
    let is = b.2 in
    omega (arith, e, is)

pub one_answer : (n : ℕ) (L : List (List ℕ)) (s t : Standard) → Tells (IsStandard n L) s → Tells (IsStandard n L) t → s ≡ t
one_answer n L NotFinite NotFinite a b = refl
one_answer n L NotFinite Many a b = absurd (a (finite n L b.0 b.1))
one_answer n L NotFinite (Count k) a b = absurd (a (finite n L b.0 b.1))
one_answer n L Many NotFinite a b = absurd (b (finite n L a.0 a.1))
one_answer n L Many Many a b = refl
one_answer n L Many (Count k) a b = absurd (apart n L k a b)
one_answer n L (Count j) NotFinite a b = absurd (b (finite n L a.0 a.1))
one_answer n L (Count j) Many a b = absurd (apart n L j b a)
one_answer n L (Count j) (Count k) a b = ap Count (sym a.2 ∙ (one_number n L a.0 b.0 a.1 b.1 ∙ b.2))
