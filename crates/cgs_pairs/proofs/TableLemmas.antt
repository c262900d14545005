-- Marks, and the pairs that are noted by them.
use Rattle.std.proofs.Common.{ℕ, ◌≡◌, ◌≢◌, ◌+◌, ◌*◌, ◌/◌, ◌%◌, ◌^◌, ◌<◌, ◌≤◌, ◌⊎◌, inl, inr, true, ◌&&◌, ◌||◌, ◌==◌, List, [], ◌∷◌, ◌++◌}
use Rattle.std.proofs.Common.{length, get_or, set, refl, sym, ap, ◌∙◌, subst, arith}
use Rattle.std.specs.Prelude.{bit_and, bit_or}
use Rattle.std.specs.Int.{w64, bit_at, bit_not, trailing_zeros}
use Rattle.std.proofs.lemmas.Bool.{cases_eq, cases_lt, eqb-true, eq-eqb, ne_eqb, and_from, or_left, or_right}
use Rattle.std.proofs.lemmas.List.{get_or_read, get_or_past, get_or-set_same, get_or-set_other}
use Rattle.std.proofs.lemmas.Nat.{and_le_l}
use Rattle.std.proofs.lemmas.Nat.Bits.{bit_at-zero, bit_at_set_same, bit_at_set_other, bit_at_clear_same, bit_at_clear_other, bit_at-trailing_zeros}
use Rattle.cgs_pairs.specs.Passed.{has_pair}
use Rattle.cgs_pairs.specs.Table.{is_marked, is_marked_in, IsTable, ArePartners}
use Rattle.cgs_pairs.proofs.PassedLemmas.{has_noted, noted_from}

same_pair : (i k : ℕ) → (i == i && k == k) ≡ true
same_pair i k = and_from (i == i) (k == k) (eq-eqb i i refl) (eq-eqb k k refl)

-- a place is marked: its bit is set in its word
module _ (words : List ℕ) (place w : ℕ) (within : place / 64 < length words) (read : w ≡ get_or words (place / 64) w) where
  abbrev changed : ℕ
  changed = bit_or w (1 * 2 ^ (place % 64) % 2 ^ 64)

  abbrev now : List ℕ
  now = set words (place / 64) changed

  old_word : w ≡ get_or words (place / 64) 0
  old_word = get_or_read words (place / 64) w within read 0

  new_word : get_or now (place / 64) 0 ≡ changed
  new_word = get_or-set_same words (place / 64) changed 0 within

  in_word : place % 64 < 64
  in_word = omega arith

  same_bit : (i : ℕ) → i ≡ place → is_marked now i ≡ (place == i || is_marked words i)
  same_bit i e =
      subst (λ n. is_marked now n ≡ (place == n || is_marked words n)) (sym e)
      (ap (λ n. bit_at n (place % 64) == 1) new_word
      ∙ (ap (λ n. n == 1) (bit_at_set_same w64 w (place % 64) in_word) ∙ sym (or_left (place == place) (is_marked words place) (eq-eqb place place refl))))

  other_bit : (i : ℕ) → i / 64 ≡ place / 64 → i % 64 ≢ place % 64 → is_marked now i ≡ is_marked words i
  other_bit i e n =
      ap (λ m. bit_at (get_or now m 0) (i % 64) == 1) e
      ∙ (ap (λ m. bit_at m (i % 64) == 1) new_word
      ∙ (ap (λ m. m == 1) (bit_at_set_other w64 w (place % 64) in_word (i % 64) n)
      ∙ ap (λ m. bit_at m (i % 64) == 1) (old_word ∙ ap (λ m. get_or words m 0) (sym e))))

  pub mark_set : (i : ℕ) → is_marked now i ≡ (place == i || is_marked words i)
  mark_set i = by_case (cases_eq i place) (cases_eq (i / 64) (place / 64))
    where
      by_case : (i ≡ place) ⊎ (i ≢ place) → (i / 64 ≡ place / 64) ⊎ (i / 64 ≢ place / 64) → is_marked now i ≡ (place == i || is_marked words i)
      by_case (inl e) t = same_bit i e
      by_case (inr n) (inl e) =
          let apart : i % 64 ≢ place % 64 = omega (arith, n, e) in
          rw (ne_eqb place i (λ e. n (sym e))) (other_bit i e apart)
      by_case (inr n) (inr m) =
          rw (ne_eqb place i (λ e. n (sym e))) (ap (λ k. bit_at k (i % 64) == 1) (get_or-set_other words (place / 64) (i / 64) changed 0 m))

-- a place that is marked has its bit in its word

pub marked_within : (words : List ℕ) (place : ℕ) → is_marked words place ≡ true → place / 64 < length words
marked_within words place e = by_case (cases_lt (place / 64) (length words))
  where
    by_case : (place / 64 < length words) ⊎ (length words ≤ place / 64) → place / 64 < length words
    by_case (inl l) = l
    by_case (inr l) =
        let z = eqb-true _ 1 e in
        absurd (omega (arith, z, ap (λ w. bit_at w (place % 64)) (get_or_past words (place / 64) 0 l), bit_at-zero (place % 64)))

pub marked_bit : (words : List ℕ) (w i : ℕ) → i < 64 → is_marked words (64 * w + i) ≡ true → bit_at (get_or words w 0) i ≡ 1
marked_bit words w i l e =
    let a : w ≡ (64 * w + i) / 64 = omega arith in
    let b : i ≡ (64 * w + i) % 64 = omega arith in
    ap (λ n. bit_at (get_or words n 0) i) a ∙ (ap (λ n. bit_at (get_or words ((64 * w + i) / 64) 0) n) b ∙ eqb-true _ 1 e)

-- the lowest bit of a word is cleared

abbrev pub cleared : ℕ → ℕ
cleared n = bit_and n (bit_not w64 (1 * 2 ^ trailing_zeros w64 n % 2 ^ 64))

module _ (n : ℕ) (some : n ≢ 0) (fits : n < 2 ^ 64) where
  pub lowest_within : trailing_zeros w64 n < 64
  lowest_within = (bit_at-trailing_zeros w64 n (omega (arith, some)) fits).0

  pub cleared_less : cleared n < n
  cleared_less =
      let changed : cleared n ≢ n = λ e.
      let set : bit_at n (trailing_zeros w64 n) ≡ 1 = (bit_at-trailing_zeros w64 n (omega (arith, some)) fits).1 in
      let clear : bit_at (cleared n) (trailing_zeros w64 n) ≡ 0 = bit_at_clear_same w64 n (trailing_zeros w64 n) lowest_within in
      omega (arith, set, clear, ap (λ m. bit_at m (trailing_zeros w64 n)) e) in
      omega (arith, changed, and_le_l n (bit_not w64 (1 * 2 ^ trailing_zeros w64 n % 2 ^ 64)))

  pub cleared_other : (i : ℕ) → i < 64 → i ≢ trailing_zeros w64 n → bit_at (cleared n) i ≡ bit_at n i
  cleared_other = bit_at_clear_other w64 n (trailing_zeros w64 n) lowest_within

-- a pair that is noted is marked

module _ (pairs : List (ℕ × ℕ)) (larger smaller : ℕ) where
  abbrev noted : List (ℕ × ℕ)
  noted = pairs ++ (larger, smaller) ∷ []

  pub table_noted : (old reached new : List (List ℕ)) → IsTable old pairs → ((i k : ℕ) → is_marked_in reached i k ≡ is_marked_in old i k)
      → ((i k : ℕ) → is_marked_in new i k ≡ ((larger == i && smaller == k) || is_marked_in reached i k)) → IsTable new noted
  table_noted old reached new table same marked i k =
      marked i k ∙ (ap (λ b. (larger == i && smaller == k) || b) (same i k ∙ table i k) ∙ sym (has_noted i k pairs (larger, smaller)))

  pub partners_noted : (old reached half new : List (List ℕ)) → ArePartners old pairs → ((i k : ℕ) → is_marked_in reached i k ≡ is_marked_in old i k)
      → ((i k : ℕ) → is_marked_in half i k ≡ ((larger == i && smaller == k) || is_marked_in reached i k))
      → ((i k : ℕ) → is_marked_in new i k ≡ ((smaller == i && larger == k) || is_marked_in half i k)) → ArePartners new noted
  partners_noted old reached half new partners same marked again i j h = by_case (noted_from i j pairs (larger, smaller) h)
    where
      kept : (r k : ℕ) → is_marked_in old r k ≡ true → is_marked_in new r k ≡ true
      kept r k e =
          again r k ∙ or_right (smaller == r && larger == k) (is_marked_in half r k)
          (marked r k ∙ or_right (larger == r && smaller == k) (is_marked_in reached r k) (same r k ∙ e))

      first : is_marked_in new larger smaller ≡ true
      first =
          again larger smaller ∙ or_right (smaller == larger && larger == smaller) (is_marked_in half larger smaller)
          (marked larger smaller ∙ or_left (larger == larger && smaller == smaller) (is_marked_in reached larger smaller) (same_pair larger smaller))

      second : is_marked_in new smaller larger ≡ true
      second = again smaller larger ∙ or_left (smaller == smaller && larger == larger) (is_marked_in half smaller larger) (same_pair smaller larger)

      by_case : (has_pair i j pairs ≡ true) ⊎ ((larger ≡ i) × (smaller ≡ j)) → (is_marked_in new i j ≡ true) × (is_marked_in new j i ≡ true)
      by_case (inl e) = let p = partners i j e in (kept i j p.0, kept j i p.1)
      by_case (inr e) = rw (← e.0, ← e.1) (first, second)
