-- What numbers of a line stand for.
use Rattle.std.specs.Prelude.{◌==◌, ℕ, if◌then◌else◌, Option, Some, None}
use Rattle.std.specs.List.{list_any}
use Rattle.cgs_field.specs.Prime.{moduli}

-- a modulus of the table
abbrev pub modulus_of : ℕ → Option ℕ
modulus_of n = if list_any (λ p. p == n) moduli then Some n else None
