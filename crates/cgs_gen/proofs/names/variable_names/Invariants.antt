use Rattle.std.proofs.Common.{◌≡◌}
use Rattle.cgs_gen.specs.Generator.{variable_names}
use Rattle.cgs_gen.proofs.names.variable_names.Given as goal

abbrev pub invariant-loop-i : goal.invariant-loop-i
invariant-loop-i l = l.names ≡ variable_names l.i
