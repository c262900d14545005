use Rattle.std.proofs.Common.{◌≡◌, ◌++◌, List, ℕ, [], codes, get_or, ap, ◌∙◌, subst, append_assoc}
use Rattle.std.proofs.lemmas.List.{append-nil}
use Rattle.std.specs.List.{flat_map}
use Rattle.cgs_canonical.specs.Printing.{AppendsFront}
use Rattle.cgs_canonical.proofs.PrintLemmas.{leaves_all, leaves_rest, leaves_equal, leaves_item, leaves_no_item, front_kept, front_of_item}
use Rattle.cgs_canonical.proofs.PrintLemmas.{at_exit, ends, extended}
use Rattle.cgs_canonical.proofs.line.names_line.Goals as goal

abbrev word : List ℕ → List ℕ
word name = codes " " ++ name

pub returns-in_err-extend_from_slice : goal.returns-in_err-extend_from_slice
returns-in_err-extend_from_slice c = at_exit _ _ _ _ c.from_residual.ensures.0 (front_kept (leaves_all _ _) c.in_err-extend_from_slice.ensures.err)

pub loop-name-init : goal.loop-name-init
loop-name-init c =
    let words = flat_map word c.args.names.now in
    leaves_rest c.args.keyword.now (words ++ codes "\n") (leaves_equal _ (leaves_all _ _) (append_assoc c.args.keyword.now words (codes "\n")))
    c.in_ok-extend_from_slice.ensures.ok

-- a space and a name, as they were appended
appended_word : (name printed : List ℕ) → printed ≡ name → codes " " ++ (printed ++ []) ≡ word name
appended_word name printed e = ap (λ (xs : List ℕ). codes " " ++ xs) (append-nil printed ∙ e)

pub returns-in_err-push_all : goal.returns-in_err-push_all
returns-in_err-push_all c =
    let name = get_or c.args.names.now c.loop-name.name-index c.name-item.result in
    let front : AppendsFront c.loop-name.out c.push_all.new.out (word name) =
    subst (AppendsFront c.loop-name.out c.push_all.new.out)
    (appended_word name c.as_slice.result.now (c.as_slice.ensures ∙ c.name-item.is)) c.in_err-push_all.ensures in
    at_exit _ _ _ _ c.from_residual-in_err-push_all.ensures.0
    (front_of_item word c.args.names.now c.loop-name.name-index _ (codes "\n") c.loop-name-test.true c.loop-name.invariant front)

pub loop-name-preserved : goal.loop-name-preserved
loop-name-preserved c =
    leaves_item word c.args.names.now c.loop-name.name-index c.name-item.result (codes "\n") c.loop-name-test.true c.loop-name.invariant
    (c.in_ok-push_all.ensures ∙ ap (λ (xs : List ℕ). c.loop-name.out ++ xs) (appended_word _ _ (c.as_slice.ensures ∙ c.name-item.is)))

pub returns : goal.returns
returns c =
    ends _ _ (codes "\n") (leaves_no_item word c.args.names.now c.loop-name.name-index (codes "\n") c.loop-name-test.false c.loop-name.invariant)
    (extended _ _ _ _ c.extend_from_slice-2.ensures.ok c.extend_from_slice-2.ensures.err)
