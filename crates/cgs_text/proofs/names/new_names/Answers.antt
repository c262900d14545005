use Rattle.std.proofs.Common.{◌≡◌, ℕ, false, List, [], ◌∷◌, ◌++◌, sym, ap, ◌∙◌}
use Rattle.std.specs.Prelude.{bytes_eq}
use Rattle.std.specs.Borrow.{Bor}
use Rattle.std.specs.BTreeSet.{contains}
use Rattle.std.specs.Cmp.Lexicographic.{slice_cmp}
use Rattle.std.specs.List.{list_any}
use Rattle.std.specs.Ordering.{nat_cmp}
use Rattle.cgs_tokens.specs.declared.lexeme.Lexeme.{Lexeme as Read}
use Rattle.cgs_tokens.specs.Lexemes.{name, seen}
use Rattle.cgs_problem.specs.Drafts.{names_said}
use Rattle.cgs_text.proofs.NameLemmas.{new_name, not_given, opposite_false, seen_more}
use Rattle.cgs_text.proofs.names.new_names.Goals as goal

pub loop-lexeme-preserved : goal.loop-lexeme-preserved
loop-lexeme-preserved c =
    let others = c.args.others.now in
    let names = c.loop-lexeme.names in
    let word = c.in-Name.name in
    let rest = c.in-Some.after in
    let cells : c.loop-lexeme.rest ≡ name word.now ∷ rest = c.in-Some.ensures ∙ ap (λ (x : Read). seen x ∷ rest) c.in-Name.is in
    let was = opposite_false _ _ c.in_ok-insert.ensures.added c.if-not-branch.false in
    let not_here : list_any (bytes_eq word.now) names ≡ false = sym (c.loop-lexeme.invariant.seen word) ∙ was in
    let not_other : list_any (bytes_eq word.now) others ≡ false = sym c.is_among.ensures ∙ c.if-is_among.false in
    let pushed : c.push.new.self ≡ names ++ word.now ∷ [] =
    c.in_ok-push.ensures.ok ∙ ap (λ (w : List ℕ). names ++ w ∷ []) c.in_ok-from_slice.ensures in
    rw pushed (record {
      seen = λ (q : Bor (List ℕ)). c.in_ok-insert.ensures.updates.0 q
          ∙ seen_more names word.now q.now (contains (λ (x y : Bor (List ℕ)). slice_cmp nat_cmp x.now y.now) c.loop-lexeme.seen q)
          (c.loop-lexeme.invariant.seen q);
      so_far = new_name others names word.now c.loop-lexeme.rest rest (names_said others [] c.args.line) cells
          (not_given others names word.now not_other not_here) c.loop-lexeme.invariant.so_far;
    })
