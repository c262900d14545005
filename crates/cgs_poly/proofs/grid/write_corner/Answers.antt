use Rattle.std.proofs.Common.{◌≡◌, ◌+◌, ◌<◌, ℕ, true, false, ap, sym, ◌∙◌, length, take, replicate, arith}
use Rattle.std.proofs.lemmas.List.{length-take}
use Rattle.cgs_exps.specs.Monomial.{degree}
use Rattle.cgs_exps.proofs.MonomialLemmas.{degree_product}
use Rattle.cgs_poly.proofs.GridLemmas.{corner_of, have_length}
use Rattle.cgs_poly.proofs.grid.write_corner.Goals as goal
use Rattle.cgs_poly.proofs.grid.write_corner.Goals.{In-Ok}

-- both monomials have the length of the corner
module _ (c : In-Ok) where
  room : length (take (length c.args.corner.now) (replicate {A = ℕ} 17 0)) ≡ length c.args.corner.now
  room = omega (arith, length-take (length c.args.corner.now) (replicate {A = ℕ} 17 0), c.requires.few)

  of_f : length c.write_lcm.new.lcm ≡ length c.args.corner.now
  of_f = c.write_lcm.ensures.places ∙ room

  of_g : length c.write_lcm-2.new.lcm ≡ length c.args.corner.now
  of_g = c.write_lcm-2.ensures.places ∙ room

pub returns-clause-corner : goal.returns-clause-corner
returns-clause-corner c = λ e.
    corner_of c.product_into.new.out c.write_lcm.new.lcm c.write_lcm-2.new.lcm c.args.f.now c.args.g.now c.in-Ok.ensures.ok (of_f c ∙ sym (of_g c))
    (have_length (length c.args.corner.now) (length c.write_lcm.new.lcm) c.args.f.now (sym (of_f c)) c.requires.first)
    (have_length (length c.args.corner.now) (length c.write_lcm.new.lcm) c.args.g.now (sym (of_f c)) c.requires.second)
    c.write_lcm.ensures.multiple c.write_lcm-2.ensures.multiple

pub returns-clause-low : goal.returns-clause-low
returns-clause-low c = λ e.
    let s : degree c.product_into.new.out ≡ degree c.write_lcm.new.lcm + degree c.write_lcm-2.new.lcm =
    ap degree c.in-Ok.ensures.ok ∙ degree_product c.write_lcm.new.lcm c.write_lcm-2.new.lcm (of_f c ∙ sym (of_g c)) in
    let low : (32767 < degree c.write_lcm.new.lcm + degree c.write_lcm-2.new.lcm) → ⊥ = λ l. let f : false ≡ true = c.in-Ok.ensures.too_great.1 l in cc in
    omega (arith, s, low)
