-- A text as lines.
use Rattle.std.specs.Prelude.{ℕ, Bool, true, List, [], ◌∷◌, if◌then◌else◌, ◌==◌}
use Rattle.cgs_tokens.specs.Tokens.{is_blank}

abbrev pub on_first : ℕ → List (List ℕ) → List (List ℕ)
on_first byte [] = (byte ∷ []) ∷ []
on_first byte (line ∷ lines) = (byte ∷ line) ∷ lines

-- The bytes are cut at LF. An empty last piece is no line.
abbrev pub lines_of : List ℕ → List (List ℕ)
lines_of [] = []
lines_of (byte ∷ bytes) = if byte == 10 then [] ∷ lines_of bytes else on_first byte (lines_of bytes)

-- One CR at the end is dropped.
abbrev pub without_cr : List ℕ → List ℕ
without_cr [] = []
without_cr (byte ∷ []) = if byte == 13 then [] else byte ∷ []
without_cr (byte ∷ bytes) = byte ∷ without_cr bytes

-- A line of blanks alone, or whose first other byte is `#`.
abbrev pub is_passed_over : List ℕ → Bool
is_passed_over [] = true
is_passed_over (byte ∷ bytes) = if is_blank byte then is_passed_over bytes else byte == 35
