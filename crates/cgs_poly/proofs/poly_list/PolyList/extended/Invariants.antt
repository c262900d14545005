use Rattle.std.proofs.Common.{◌≡◌, ◌++◌, take}
use Rattle.cgs_poly.proofs.poly_list.PolyList.extended.Given as goal

abbrev pub invariant-loop-item : goal.invariant-loop-item
invariant-loop-item l = l.self ≡ l.fn.self ++ take l.item-index l.items
