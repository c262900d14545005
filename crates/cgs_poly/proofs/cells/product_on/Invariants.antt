use Rattle.std.proofs.Common.{◌≡◌, ◌-◌, ◌*◌, length, take}
use Rattle.cgs_poly.specs.Product.{all_products}
use Rattle.cgs_poly.specs.Grid.{terms_at, HasRoom}
use Rattle.cgs_poly.proofs.SumLemmas.{Alike}
use Rattle.cgs_poly.proofs.cells.product_on.Given as goal

abbrev pub invariant-loop-i : goal.invariant-loop-i
invariant-loop-i l = record {
  cells : length l.cells.items ≡ l.grid.cells;
  room : HasRoom ((length l.f - l.i) * length l.g) l.cells.items;
  sum : Alike l.ring.modulus (terms_at l.grid.strides.items 0 l.cells.items) (all_products (take l.i l.f) l.g);
}
