use Rattle.std.proofs.Common.{◌≡◌, List, ℕ, [], length}
use Rattle.std.specs.Prelude.{bytes_eq}
use Rattle.std.specs.Borrow.{Bor}
use Rattle.std.specs.BTreeSet.{contains}
use Rattle.std.specs.Cmp.Lexicographic.{slice_cmp}
use Rattle.std.specs.List.{list_any}
use Rattle.std.specs.Ordering.{nat_cmp}
use Rattle.cgs_problem.specs.Drafts.{names_said}
use Rattle.cgs_text.proofs.names.new_names.Given as goal

abbrev pub invariant-loop-lexeme : goal.invariant-loop-lexeme
invariant-loop-lexeme l = record {
  seen : (word : Bor (List ℕ)) → contains (λ (x y : Bor (List ℕ)). slice_cmp nat_cmp x.now y.now) l.seen word ≡ list_any (bytes_eq word.now) l.names;
  so_far : names_said l.others l.names l.rest ≡ names_said l.others [] l.fn.line;
}

abbrev pub decreases-loop-lexeme : goal.decreases-loop-lexeme
decreases-loop-lexeme l = length l.rest
