-- The list of a*x - 1 is exact since no limit touched it, and others are not since there is one exact list.
use Rattle.std.proofs.Common.{ℕ, ◌≡◌, ◌<◌, List, [], ◌∷◌, map, refl, sym, ap, subst, arith}
use Rattle.std.specs.List.{AllByRecursion}
use Rattle.cgs_poly.specs.Polynomial.{IsRing}
use Rattle.cgs_point.specs.Points.{IsPoint}
use Rattle.cgs_entry.specs.declared.entry.Entry.{Entry}
use Rattle.cgs_entry.specs.Examples.{seven, only_a, one, line}
use Rattle.cgs_entry.proofs.ExampleLemmas.{line_canonical}
use Rattle.cgs_split.specs.Examples.{list_of, untested}
use Rattle.cgs_system.specs.ExactList.{IsTested}
use Rattle.cgs_system.specs.Joining.{behind}
use Rattle.cgs_system.specs.Examples.{where_a_stands, where_a_vanishes, IsExactForLine, LineListIsExact, GapIsRefused, OtherOrderIsRefused, UntestedIsRefused}
use Rattle.cgs_system.specs.Examples.{part, PartLeftOutIsRefused, OtherConditionsAreRefused, OtherPathIsRefused}
use Rattle.cgs_system.proofs.UniquenessLemmas.{exact_unique}
use Rattle.cgs_system.proofs.ExactTreeLemmas.{tested_exact}

seven_ring : IsRing seven
seven_ring = record { modulus = refl; some = omega arith; variables = omega arith; parameters = omega arith }

pub line_exact : (budget depth : ℕ) → list_of budget depth [] [] (line ∷ []) ≡ where_a_stands ∷ where_a_vanishes ∷ [] → LineListIsExact
line_exact budget depth e =
    let tested : AllByRecursion IsTested (where_a_stands ∷ where_a_vanishes ∷ []) = (refl, (refl, tt)) in
    subst IsExactForLine e
    (tested_exact seven (record { budget = budget; depth = depth }) [] [] (line ∷ []) seven_ring tt tt (line_canonical, tt)
    (subst (λ es. AllByRecursion IsTested es) (sym e) tested))

only_list : LineListIsExact → (entries : List Entry) → IsExactForLine entries → where_a_stands ∷ where_a_vanishes ∷ [] ≡ entries
only_list h entries k = exact_unique seven [] [] (line ∷ []) (where_a_stands ∷ where_a_vanishes ∷ []) entries seven_ring h k

pub gap_refused : LineListIsExact → GapIsRefused
gap_refused h k = cc (only_list h (where_a_stands ∷ []) k)

pub other_order_refused : LineListIsExact → OtherOrderIsRefused
other_order_refused h k = cc (ap (λ (es : List Entry). map (λ (e : Entry). e.path) es) (only_list h (where_a_vanishes ∷ where_a_stands ∷ []) k))

pub untested_refused : LineListIsExact → UntestedIsRefused
untested_refused h k =
    cc (ap (λ (es : List Entry). map (λ (e : Entry). e.kind) es) (only_list h (where_a_stands ∷ untested 1 (only_a ∷ []) [] (one ∷ []) ∷ []) k))

-- lists that are joined wrongly

point : (n : ℕ) → n < 7 → IsPoint seven (n ∷ [])
point n l = record { places = refl; below = (l, tt) }

pub part_left_out_refused : PartLeftOutIsRefused
part_left_out_refused h = let e = h.cover (0 ∷ []) (point 0 (omega arith)) in let none_is_one : ◌≡◌ {A = ℕ} 0 1 = e in omega arith

pub other_conditions_refused : OtherConditionsAreRefused
other_conditions_refused h = let e = h.cover (1 ∷ []) (point 1 (omega arith)) in let two_is_one : ◌≡◌ {A = ℕ} 2 1 = e in omega arith

pub other_path_refused : LineListIsExact → OtherPathIsRefused
other_path_refused h k =
    cc (ap (λ (es : List Entry). map (λ (e : Entry). e.path) es) (only_list h (where_a_stands ∷ map (behind (2 ∷ [])) part) k))
