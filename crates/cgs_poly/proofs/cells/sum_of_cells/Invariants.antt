use Rattle.std.proofs.Common.{drop}
use Rattle.std.specs.List.{AllByRecursion}
use Rattle.cgs_poly.specs.Polynomial.{IsTerm}
use Rattle.cgs_poly.specs.Grid.{terms_at}
use Rattle.cgs_poly.proofs.SumLemmas.{Alike}
use Rattle.cgs_poly.proofs.cells.sum_of_cells.Given as goal

abbrev pub invariant-loop-i : goal.invariant-loop-i
invariant-loop-i l = record {
  terms : AllByRecursion (IsTerm l.ring) l.terms;
  sum : Alike l.ring.modulus l.terms (terms_at l.strides l.i (drop l.i l.cells));
}
