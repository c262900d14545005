-- Numbers digit by digit.
use Rattle.std.proofs.Common.{◌≡◌, ℕ, zero, suc, ◌-◌, ◌+◌, ◌*◌, ◌^◌, ◌<◌, ◌≤◌, List, [], ◌∷◌, get_or, drop, length, sym, ap, ◌∙◌, arith, add-one}
use Rattle.std.proofs.Math.Nat.{pow-le-pow_right, pow-suc}
use Rattle.std.proofs.lemmas.Bool.Decides.{nat_tests}
use Rattle.std.proofs.lemmas.List.{drop_more}
use Rattle.std.specs.Char.{digit_value}
use Rattle.std.specs.Str.Parse.{AllDigits, digits_value, digits_value_after}

digit_of : (c : ℕ) → digit_value c < 10 → (48 ≤ c) × (c - 48 < 10)
digit_of c h = grind (arith, nat_tests)

digit_is : (c : ℕ) → digit_value c < 10 → digit_value c ≡ c - 48
digit_is c h = grind (arith, nat_tests)

digit_value_at : (ds : List ℕ) (i : ℕ) → AllDigits 10 ds → i < length ds → digit_value (get_or ds i 0) < 10
digit_value_at [] i h lt = absurd (omega arith)
digit_value_at (c ∷ ds) zero h lt = h.0
digit_value_at (c ∷ ds) (suc i) h lt = digit_value_at ds i h.1 (omega arith)

pub digit_at : (ds : List ℕ) (i : ℕ) → AllDigits 10 ds → i < length ds → (48 ≤ get_or ds i 0) × (get_or ds i 0 - 48 < 10)
digit_at ds i h lt = digit_of (get_or ds i 0) (digit_value_at ds i h lt)

pub room : (v i : ℕ) → i < 18 → v < 10 ^ i → v < 10 ^ 17
room v i lt h = let le : 10 ^ i ≤ 10 ^ 17 = pow-le-pow_right {n = 10} (omega arith) {i = i} {j = 17} (omega arith) in omega arith

pub one_more : (v i c : ℕ) → c - 48 < 10 → v < 10 ^ i → v * 10 + (c - 48) < 10 ^ (i + 1)
one_more v i c d h = rw (add-one, pow-suc 10 i) (omega arith)

pub goes_on : (ds : List ℕ) (i v : ℕ) → AllDigits 10 ds → i < length ds → digits_value_after 10 v (drop i ds) ≡ digits_value 10 ds
    → digits_value_after 10 (v * 10 + (get_or ds i 0 - 48)) (drop (i + 1) ds) ≡ digits_value 10 ds
goes_on ds i v h lt so_far =
    let e : digit_value (get_or ds i 0) ≡ get_or ds i 0 - 48 = digit_is (get_or ds i 0) (digit_value_at ds i h lt) in
    let one : digits_value_after 10 v (drop i ds) ≡ digits_value_after 10 (v * 10 + (get_or ds i 0 - 48)) (drop (i + 1) ds) =
    ap (digits_value_after 10 v) (drop_more ds i 0 lt) ∙ ap (λ d. digits_value_after 10 (v * 10 + d) (drop (i + 1) ds)) e in
    sym one ∙ so_far
