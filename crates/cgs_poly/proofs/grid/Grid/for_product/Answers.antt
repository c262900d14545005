use Rattle.std.proofs.Common.{ℕ, ◌≡◌, ◌*◌, ◌-◌, ◌^◌, min, length, take, replicate, ◌∙◌, arith}
use Rattle.std.proofs.lemmas.List.{length-take}
use Rattle.cgs_poly.proofs.grid.Grid.for_product.Goals as goal

pub returns : goal.returns
returns c =
    let room : length (take c.args.places (replicate {A = ℕ} 17 0)) ≡ c.args.places =
    omega (arith, length-take c.args.places (replicate {A = ℕ} 17 0), c.requires.few) in
    let pairs : c.saturating_mul-pairs.result ≡ min (length c.args.f.now * length c.args.g.now) (2 ^ 64 - 1) =
    rw (c.len.ensures, c.len-2.ensures) at c.saturating_mul-pairs.ensures in
    record {
      numbered = record {
        corner = c.write_corner.new.corner;
        places = c.write_corner.ensures.places ∙ room;
        low = c.write_corner.ensures.low c.if-not-write_corner.false;
        strides = c.in_ok-strides.ensures;
        count = c.in-Some.ensures;
      };
      corner = c.write_corner.ensures.corner c.if-not-write_corner.false;
      few = omega (arith, pairs, c.if-cells-pairs.false);
      small = omega (arith, pairs, c.if-pairs-gt-MOST_PAIRS.false);
    }
