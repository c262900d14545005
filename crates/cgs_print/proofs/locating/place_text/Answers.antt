use Rattle.std.proofs.Common.{◌≡◌, ◌++◌, ℕ, List, Option, Some, refl, subst}
use Rattle.std.specs.Prelude.{slice_get}
use Rattle.cgs_entry.specs.declared.entry.Entry.{Entry}
use Rattle.cgs_locate.specs.declared.search.Located.{Located}
use Rattle.cgs_problem.specs.declared.problem.Problem.{Problem}
use Rattle.cgs_canonical.specs.Printing.{AppendsFront, Prints}
use Rattle.cgs_print.specs.Printing.{head_line}
use Rattle.cgs_print.specs.Locating.{special_lines, place_text}
use Rattle.cgs_canonical.proofs.PrintLemmas.{front_first, last_part, at_exit}
use Rattle.cgs_print.proofs.locating.place_text.Goals as goal

-- the lines of the entry that was found
lines_there : (problem : Problem) (entries : List Entry) (found : Option Located) (place : Located) (entry : Entry) → found ≡ Some place
    → slice_get entries place.index ≡ Some entry
    → head_line entry ++ special_lines problem place.basis ≡ place_text problem entries found
lines_there problem entries found place entry is at = rw (is, at) refl

pub returns-in_err-head_line-in-Some : goal.returns-in_err-head_line-in-Some
returns-in_err-head_line-in-Some c =
    let place = c.in-Some.place in
    let entry = c.get.result.now in
    let whole = lines_there c.args.problem.now c.args.entries.now c.args.found.now place entry c.in-Some.is c.get.ensures in
    at_exit _ _ _ _ c.from_residual.ensures.0
    (subst (AppendsFront c.args.out.now c.head_line.new.out) whole
    (front_first _ _ (head_line entry) (special_lines c.args.problem.now place.basis) c.in_err-head_line-in-Some.ensures))

pub returns-in_ok-head_line-in-Some : goal.returns-in_ok-head_line-in-Some
returns-in_ok-head_line-in-Some c =
    let place = c.in-Some.place in
    let entry = c.get.result.now in
    let whole = lines_there c.args.problem.now c.args.entries.now c.args.found.now place entry c.in-Some.is c.get.ensures in
    subst (λ (text : List ℕ). Prints c.special_lines.result c.args.out.now c.special_lines.new.out text) whole
    (last_part _ _ _ _ (head_line entry) (special_lines c.args.problem.now place.basis) c.in_ok-head_line-in-Some.ensures c.special_lines.ensures)
