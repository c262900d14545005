use Rattle.std.proofs.Common.{◌≡◌}
use Rattle.cgs_poly.specs.Polynomial.{canonical}
use Rattle.cgs_poly.proofs.RingLemmas.{ring_positive}
use Rattle.cgs_poly.proofs.TermLemmas.{part_of, sum_of_all, sum_coefficients}
use Rattle.cgs_poly.proofs.poly.Poly.of_terms.Goals as goal

pub returns-clause-coefficients : goal.returns-clause-coefficients
returns-clause-coefficients c =
    let ring = c.args.ring.now in
    let terms = c.args.terms.now in
    let of_part : c.in_ok-sum.sum ≡ canonical ring (part_of 0 c.len.result terms) = c.in_ok-sum.ensures.sum in
    let sum = sum_of_all ring terms c.in_ok-sum.sum c.len.result c.len.ensures of_part in
    sum_coefficients ring terms c.in_ok-sum.sum (ring_positive ring c.requires.ring) c.requires.terms sum
