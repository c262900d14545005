-- The first line of a text, and what is dropped of a line.
use Rattle.std.proofs.Common.{◌≡◌, ℕ, suc, ◌+◌, ◌<◌, ◌≤◌, Bool, true, false, cond, not, List, [], ◌∷◌, ◌++◌, take, drop, length, refl, sym, ap, ◌∙◌, subst}
use Rattle.std.proofs.Common.{arith, eqb, ltb, Some, None}
use Rattle.std.proofs.lemmas.Bool.{ltb-true, ltb-false, ne_eqb}
use Rattle.std.proofs.lemmas.Option.{cond_some}
use Rattle.std.proofs.lemmas.List.{drop_all}
use Rattle.std.specs.Prelude.{position}
use Rattle.std.specs.List.{position_or_len}
use Rattle.cgs_problem.specs.Lines.{lines_of, on_first, without_cr}

abbrev is_feed : ℕ → Bool
is_feed b = eqb b 10

shifted : (b : ℕ) (bytes : List ℕ) (m n : ℕ) → n ≡ suc m
    → (b ∷ take m bytes) ∷ lines_of (drop (m + 1) bytes) ≡ take n (b ∷ bytes) ∷ lines_of (drop (n + 1) (b ∷ bytes))
shifted b bytes m n e =
    let k : n + 1 ≡ suc (m + 1) = omega arith in
    let front : take n (b ∷ bytes) ≡ b ∷ take m bytes = ap (λ i. take i (b ∷ bytes)) e in
    let back : drop (n + 1) (b ∷ bytes) ≡ drop (m + 1) bytes = ap (λ i. drop i (b ∷ bytes)) k in
    rw (front, back) refl

first_at : (bytes : List ℕ) → position_or_len is_feed bytes < length bytes
    → lines_of bytes ≡ take (position_or_len is_feed bytes) bytes ∷ lines_of (drop (position_or_len is_feed bytes + 1) bytes)
first_at [] h = absurd (omega arith)
first_at (b ∷ bytes) h = step (eqb b 10) refl h (first_at bytes)
  where
    step : (t : Bool) → eqb b 10 ≡ t → cond (not t) (1 + position_or_len is_feed bytes) 0 < suc (length bytes)
        → (position_or_len is_feed bytes < length bytes
        → lines_of bytes ≡ take (position_or_len is_feed bytes) bytes ∷ lines_of (drop (position_or_len is_feed bytes + 1) bytes))
        → cond t ([] ∷ lines_of bytes) (on_first b (lines_of bytes))
        ≡ take (cond (not t) (1 + position_or_len is_feed bytes) 0) (b ∷ bytes) ∷ lines_of
        (drop (cond (not t) (1 + position_or_len is_feed bytes) 0 + 1) (b ∷ bytes))
    step true e k ih = refl
    step false e k ih = ap (on_first b) (ih (omega arith)) ∙ shifted b bytes (position_or_len is_feed bytes) (1 + position_or_len is_feed bytes) (omega arith)

-- where a line feed stands, the first line ends
pub cut_at : (bytes : List ℕ) (at : ℕ) → position (λ b. eqb b 10) bytes ≡ Some at → lines_of bytes ≡ take at bytes ∷ lines_of (drop (at + 1) bytes)
cut_at bytes at h =
    let found = cond_some (ltb (position_or_len is_feed bytes) (length bytes)) (position_or_len is_feed bytes) at h in
    subst (λ n. lines_of bytes ≡ take n bytes ∷ lines_of (drop (n + 1) bytes)) found.1 (first_at bytes (ltb-true _ _ found.0))

no_feed : (b : ℕ) (bytes : List ℕ) → length bytes ≤ position_or_len is_feed bytes → on_first b (lines_of bytes) ≡ (b ∷ bytes) ∷ []
no_feed b [] h = refl
no_feed b (c ∷ bytes) h = step (eqb c 10) refl h (no_feed c bytes)
  where
    step : (t : Bool) → eqb c 10 ≡ t → suc (length bytes) ≤ cond (not t) (1 + position_or_len is_feed bytes) 0
        → (length bytes ≤ position_or_len is_feed bytes → on_first c (lines_of bytes) ≡ (c ∷ bytes) ∷ [])
        → on_first b (cond t ([] ∷ lines_of bytes) (on_first c (lines_of bytes))) ≡ (b ∷ c ∷ bytes) ∷ []
    step true e k ih = absurd (omega arith)
    step false e k ih = ap (on_first b) (ih (omega arith))

no_place : (bytes : List ℕ) (t : Bool) → ltb (position_or_len is_feed bytes) (length bytes) ≡ t → cond t (Some (position_or_len is_feed bytes)) None ≡ None
    → length bytes ≤ position_or_len is_feed bytes
no_place bytes true e k = cc
no_place bytes false e k = ltb-false (position_or_len is_feed bytes) (length bytes) e

one_line : (bytes : List ℕ) → 0 < length bytes → length bytes ≤ position_or_len is_feed bytes → lines_of bytes ≡ bytes ∷ []
one_line [] some h = absurd (omega arith)
one_line (b ∷ bytes) some h = step (eqb b 10) refl h (no_feed b bytes)
  where
    step : (t : Bool) → eqb b 10 ≡ t → suc (length bytes) ≤ cond (not t) (1 + position_or_len is_feed bytes) 0
        → (length bytes ≤ position_or_len is_feed bytes → on_first b (lines_of bytes) ≡ (b ∷ bytes) ∷ [])
        → cond t ([] ∷ lines_of bytes) (on_first b (lines_of bytes)) ≡ (b ∷ bytes) ∷ []
    step true e k ih = absurd (omega arith)
    step false e k ih = ih (omega arith)

-- where no line feed stands, there is one line
pub not_cut : (bytes rest : List ℕ) → 0 < length bytes → rest ≡ drop (length bytes) bytes → position (λ b. eqb b 10) bytes ≡ None
    → lines_of bytes ≡ bytes ∷ lines_of rest
not_cut bytes rest some e h =
    let none : rest ≡ [] = e ∙ drop_all (length bytes) bytes (omega arith) in
    rw none (one_line bytes some (no_place bytes (ltb (position_or_len is_feed bytes) (length bytes)) refl h))

-- the carriage return

cr_last : (text : List ℕ) → without_cr (text ++ 13 ∷ []) ≡ text
cr_last [] = refl
cr_last (b ∷ []) = refl
cr_last (b ∷ c ∷ text) = ap (λ (bytes : List ℕ). b ∷ bytes) (cr_last (c ∷ text))

other_last : (text : List ℕ) (last : ℕ) → (last ≡ 13 → ⊥) → without_cr (text ++ last ∷ []) ≡ text ++ last ∷ []
other_last [] last h = let e : eqb last 13 ≡ false = ne_eqb last 13 h in rw e refl
other_last (b ∷ []) last h = let e : eqb last 13 ≡ false = ne_eqb last 13 h in rw e refl
other_last (b ∷ c ∷ text) last h = ap (λ (bytes : List ℕ). b ∷ bytes) (other_last (c ∷ text) last h)

pub drops_cr : (line text : List ℕ) (last : ℕ) → line ≡ text ++ last ∷ [] → last ≡ 13 → text ≡ without_cr line
drops_cr line text last e l = sym (ap without_cr (e ∙ ap (λ b. text ++ b ∷ []) l) ∙ cr_last text)

pub keeps_other : (line text : List ℕ) (last : ℕ) → line ≡ text ++ last ∷ [] → (last ≡ 13 → ⊥) → line ≡ without_cr line
keeps_other line text last e h = e ∙ sym (ap without_cr e ∙ other_last text last h)
