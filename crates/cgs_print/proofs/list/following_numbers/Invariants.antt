use Rattle.std.proofs.Common.{◌++◌, [], drop, codes, decimal}
use Rattle.std.specs.List.{flat_map}
use Rattle.cgs_canonical.proofs.PrintLemmas.{Leaves}
use Rattle.cgs_print.proofs.list.following_numbers.Given as goal

abbrev pub invariant-loop-number : goal.invariant-loop-number
invariant-loop-number l =
    Leaves l.fn.out l.out (flat_map (λ number. codes "." ++ decimal number) l.numbers)
    (flat_map (λ number. codes "." ++ decimal number) (drop l.number-index l.numbers) ++ [])
