-- An autoreduction of polynomials as a program keeps them leaves such polynomials.
use Rattle.std.proofs.Common.{ℕ, ◌≡◌, ◌<◌, List, [], arith}
use Rattle.cgs_field.proofs.PrimeLemmas.{modulus_field}
use Rattle.cgs_poly.specs.Ring.{Ring}
use Rattle.cgs_poly.specs.Polynomial.{Term, IsRing, IsPoly, ArePolys}
use Rattle.cgs_list.proofs.ListLemmas.{all_at_place, all_by_places}
use Rattle.cgs_algebra.specs.Groebner.{AreMonic}
use Rattle.cgs_divide.specs.Ending.{ended}
use Rattle.cgs_divide.specs.AutoreductionRun.{minimal_members, autoreduction}
use Rattle.cgs_divide.proofs.MinimalLemmas.{each_kept}
use Rattle.cgs_divide.proofs.AutoreductionRunLemmas.{autoreduction_divides}

module _ (ring : Ring) (r : IsRing ring) (G : List (List Term)) (monic : AreMonic ring G) (polys : ArePolys ring G) where
  two : 1 < ring.modulus
  two = (modulus_field ring.modulus r.modulus).two

  kept_polys : ArePolys ring (minimal_members ring G)
  kept_polys = each_kept ring G (omega (arith, two)) monic (IsPoly ring) polys

  pub autoreduction_polys : (R : List (List Term)) (units left : ℕ) → autoreduction ring G units ≡ ended R left → ArePolys ring R
  autoreduction_polys R units left e =
      let h = autoreduction_divides ring G R units left r two monic e in
      all_by_places (IsPoly ring) [] R (λ i l.
      let d = (h.0.steps i l).divided in
      let f = all_at_place (IsPoly ring) [] (minimal_members ring G) kept_polys i (omega (arith, h.1)) in
      record { canonical = d.canonical_remainder; low = d.low_remainder f.low })
