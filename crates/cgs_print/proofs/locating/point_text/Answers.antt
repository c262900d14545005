use Rattle.std.proofs.Common.{◌≡◌, ◌<◌, ℕ, List, length, Option, Some, None, IfSome, sym, subst}
use Rattle.std.proofs.lemmas.Option.{slice_get_within}
use Rattle.cgs_poly.specs.Ring.{Ring}
use Rattle.cgs_entry.specs.declared.entry.Entry.{Entry}
use Rattle.cgs_locate.specs.declared.search.Located.{Located}
use Rattle.cgs_locate.specs.Located.{located}
use Rattle.cgs_locate.proofs.LocateLemmas.{found_is_first}
use Rattle.cgs_canonical.specs.Printing.{point_line, Prints}
use Rattle.cgs_print.specs.Locating.{place_text}
use Rattle.cgs_canonical.proofs.PrintLemmas.{front_first, last_part, at_exit}
use Rattle.cgs_print.proofs.locating.point_text.Goals as goal

pub returns-in_err-point_line : goal.returns-in_err-point_line
returns-in_err-point_line c =
    let place = place_text c.args.problem.now c.args.entries.now (located c.args.problem.now.ring c.args.point.now c.args.entries.now) in
    at_exit _ _ _ _ c.from_residual-in_err-point_line.ensures.0 (front_first _ _ (point_line c.args.point.now) place c.in_err-point_line.ensures)

-- what was found is a place of the list
place_of_list : (ring : Ring) (entries : List Entry) (point : List ℕ) (found : Option Located) → found ≡ located ring point entries
    → IfSome found (λ place. place.index < length entries)
place_of_list ring entries point None e = tt
place_of_list ring entries point (Some place) e =
    let lies = (found_is_first ring entries point place (sym e)).lies in
    slice_get_within entries place.index lies.entry lies.at

pub place_text-requires-clause-place : goal.place_text-requires-clause-place
place_text-requires-clause-place c =
    place_of_list c.args.problem.now.ring c.args.entries.now c.args.point.now c.in_ok-found.found c.in_ok-found.ensures.located

pub returns : goal.returns
returns c =
    let there = place_text c.args.problem.now c.args.entries.now in
    let printed =
    subst (λ (found : Option Located). Prints c.place_text.result c.point_line.new.out c.place_text.new.out (there found))
    c.in_ok-found.ensures.located c.place_text.ensures in
    last_part _ _ _ _ (point_line c.args.point.now)
    (there (located c.args.problem.now.ring c.args.point.now c.args.entries.now)) c.in_ok-point_line.ensures printed
