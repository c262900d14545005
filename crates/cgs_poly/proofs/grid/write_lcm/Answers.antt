use Rattle.std.proofs.Common.{◌≡◌, ◌∙◌, sym, subst, length}
use Rattle.cgs_poly.specs.Polynomial.{term}
use Rattle.cgs_poly.specs.Draft.{HaveLength}
use Rattle.cgs_poly.proofs.PlaceLemmas.{length_at}
use Rattle.cgs_poly.proofs.GridLemmas.{multiple_next}
use Rattle.cgs_poly.proofs.grid.write_lcm.Goals as goal

pub loop-i-preserved : goal.loop-i-preserved
loop-i-preserved c =
    let same : length c.loop-i.lcm ≡ length c.args.lcm.now = c.loop-i.invariant.places in
    let x = term c.term.result.coefficient c.term.result.exponents.now in
    let l : length c.term.result.exponents.now ≡ length c.args.lcm.now =
    length_at (length c.args.lcm.now) c.loop-i.i c.args.f.now x c.requires.places c.term.ensures in
    record {
      places = c.copy_from_slice.ensures.len ∙ same;
      multiple = multiple_next c.loop-i.lcm c.copy_from_slice.new.self c.args.f.now c.loop-i.i x
          (c.copy_from_slice.ensures.after ∙ c.lcm_into.ensures) (l ∙ sym same)
          (subst (λ n. HaveLength n c.args.f.now) (sym same) c.requires.places) c.term.ensures c.loop-i.invariant.multiple;
    }
