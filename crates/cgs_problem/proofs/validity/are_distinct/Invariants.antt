use Rattle.std.proofs.Common.{◌↔◌, bytes_eq, length}
use Rattle.std.specs.List.{IsDistinct}
use Rattle.cgs_problem.proofs.validity.are_distinct.Given as goal

abbrev pub invariant-loop-name : goal.invariant-loop-name
invariant-loop-name l = IsDistinct bytes_eq l.rest ↔ IsDistinct bytes_eq l.names

abbrev pub decreases-loop-name : goal.decreases-loop-name
decreases-loop-name l = length l.rest
