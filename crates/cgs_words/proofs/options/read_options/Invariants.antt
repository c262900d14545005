use Rattle.std.proofs.Common.{◌≡◌, length}
use Rattle.cgs_words.specs.Words.{options_of, no_options}
use Rattle.cgs_words.proofs.options.read_options.Given as goal

abbrev pub invariant-loop-word : goal.invariant-loop-word
invariant-loop-word l = options_of l.options l.rest ≡ options_of no_options l.words

abbrev pub decreases-loop-word : goal.decreases-loop-word
decreases-loop-word l = length l.rest
