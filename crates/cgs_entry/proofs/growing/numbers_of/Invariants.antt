use Rattle.std.proofs.Common.{◌≡◌, ◌++◌, take}
use Rattle.cgs_poly.specs.Flat.{exponents_of}
use Rattle.cgs_entry.proofs.growing.numbers_of.Given as goal

abbrev pub invariant-loop-c : goal.invariant-loop-c
invariant-loop-c l = l.all.items ≡ exponents_of l.fn.f ++ take l.c-index l.coefficients
