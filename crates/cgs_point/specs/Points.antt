-- Points of the parameter space.
use Rattle.std.specs.Prelude.{ℕ, ◌≡◌, ◌%◌, ◌<◌, List, length, map}
use Rattle.std.specs.List.{AllByRecursion}
use Rattle.cgs_poly.specs.Ring.{Ring}

-- each number reduced by the modulus
abbrev pub reduced_modulo : ℕ → List ℕ → List ℕ
reduced_modulo p values = map (λ n. n % p) values

-- one number below the modulus for each parameter
pub record IsPoint (ring : Ring) (point : List ℕ) : Type 0 where
  pub places : length point ≡ ring.parameters
  pub below : AllByRecursion (λ n. n < ring.modulus) point
