use Rattle.std.proofs.Common.{◌≡◌, ◌++◌}
use Rattle.cgs_gen.specs.Generator.{parameter_names}
use Rattle.cgs_gen.proofs.names.with_parameter_names.Given as goal

abbrev pub invariant-loop-i : goal.invariant-loop-i
invariant-loop-i l = l.names ≡ l.initial.names ++ parameter_names l.i
