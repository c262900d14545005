-- What a list of polynomials holds: vectors of its own, or the first of those that it shares.
use Rattle.std.specs.Prelude.{List, take}
use Rattle.std.specs.Arc.{arc_value}
use Rattle.cgs_poly.specs.Polynomial.{Term}
use Rattle.cgs_poly.specs.declared.poly_list.Items.{Items}
use Rattle.cgs_poly.specs.declared.poly_list.Items.TheVariants.{Own, Shared}

abbrev pub items_of : Items → List (List Term)
items_of (Own items) = items.items
items_of (Shared all count) = take count (arc_value all).items
