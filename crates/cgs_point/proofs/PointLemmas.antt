-- Numbers that are reduced one after the other.
use Rattle.std.proofs.Common.{ℕ, ◌≡◌, ◌<◌, ◌≤◌, List, [], ◌∷◌, length, take, ap, ◌∙◌}
use Rattle.std.proofs.Math.Nat.{mod-lt}
use Rattle.std.proofs.lemmas.List.{take_all, length-map}
use Rattle.std.specs.List.{AllByRecursion}
use Rattle.cgs_poly.specs.Ring.{Ring}
use Rattle.cgs_poly.specs.Polynomial.{IsRing}
use Rattle.cgs_poly.proofs.RingLemmas.{ring_positive}
use Rattle.cgs_point.specs.Points.{reduced_modulo, IsPoint}

reduced_below : (p : ℕ) (values : List ℕ) → 0 < p → AllByRecursion (λ n. n < p) (reduced_modulo p values)
reduced_below p [] pos = tt
reduced_below p (n ∷ values) pos = (mod-lt n pos, reduced_below p values pos)

pub is_point : (ring : Ring) (values numbers : List ℕ) (n : ℕ) → IsRing ring → length values ≡ ring.parameters
    → numbers ≡ reduced_modulo ring.modulus (take n values) → length values ≤ n → IsPoint ring numbers
is_point ring values numbers n valid l e le =
    let all : numbers ≡ reduced_modulo ring.modulus values = e ∙ ap (reduced_modulo ring.modulus) (take_all n values le) in
    rw all (record {
      places = rw length-map l;
      below = reduced_below ring.modulus values (ring_positive ring valid);
    })
