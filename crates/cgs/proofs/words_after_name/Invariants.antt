use Rattle.std.proofs.Common.{◌≡◌, map, take, string_bytes}
use Rattle.cgs.proofs.words_after_name.Given as goal

abbrev pub invariant-loop-argument : goal.invariant-loop-argument
invariant-loop-argument l = l.words ≡ map string_bytes (take l.argument-index l.rest)
