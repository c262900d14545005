use Rattle.std.proofs.Common.{◌≡◌, ◌≤◌, ◌-◌, drop, length}
use Rattle.cgs_tokens.specs.Tokens.{tokens_from, tokens_of}
use Rattle.cgs_tokens.proofs.ScanLemmas.{with_front}
use Rattle.cgs_tokens.proofs.scan.tokens.Given as goal

abbrev pub invariant-loop-at : goal.invariant-loop-at
invariant-loop-at l = record {
  within : l.at ≤ length l.line;
  so_far : with_front l.list (tokens_from l.format 0 l.at (drop l.at l.line)) ≡ tokens_of l.format l.line;
}

abbrev pub decreases-loop-at : goal.decreases-loop-at
decreases-loop-at l = length l.line - l.at
