use Rattle.cgs_canonical.specs.Printing.{powers_text, following}
use Rattle.cgs_canonical.proofs.PrintLemmas.{Leaves}
use Rattle.cgs_canonical.proofs.polynomial.powers_text.Given as goal

abbrev pub invariant-loop-name : goal.invariant-loop-name
invariant-loop-name l =
    Leaves l.fn.out l.out (following l.fn.bare (powers_text l.names l.exponents))
    (following l.bare (powers_text l.name-iterator.a.rest.now l.name-iterator.b.rest.now))
