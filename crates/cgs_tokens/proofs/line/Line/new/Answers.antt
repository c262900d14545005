use Rattle.cgs_tokens.proofs.TokenLemmas.{tokens_are}
use Rattle.cgs_tokens.proofs.line.Line.new.Goals as goal

pub invariant_of-result : goal.invariant_of-result
invariant_of-result c = tokens_are c.args.format c.args.bytes.now c.args.tokens.now c.requires
