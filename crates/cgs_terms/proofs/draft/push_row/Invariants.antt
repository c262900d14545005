use Rattle.std.proofs.Common.{◌≡◌, ◌+◌, ◌++◌, take}
use Rattle.std.specs.Prelude.{vec_len, vec_capacity}
use Rattle.cgs_terms.proofs.draft.push_row.Given as goal

abbrev pub invariant-loop-x : goal.invariant-loop-x
invariant-loop-x l = record {
  items : l.exponents.items ≡ l.initial.exponents.items ++ take l.x-index l.m;
  len : vec_len l.exponents ≡ vec_len l.initial.exponents + l.x-index;
  capacity : vec_capacity l.exponents ≡ vec_capacity l.initial.exponents;
}
