use Rattle.std.proofs.Common.{◌≡◌, ◌++◌, List, ℕ, [], codes, decimal, get_or, ap, ◌∙◌, subst}
use Rattle.std.proofs.lemmas.List.{append-nil}
use Rattle.cgs_canonical.specs.Printing.{AppendsFront}
use Rattle.cgs_canonical.proofs.PrintLemmas.{leaves_item, leaves_no_item, front_of_item, at_exit, ends, extended}
use Rattle.cgs_canonical.proofs.line.point_line.Goals as goal

abbrev word : ℕ → List ℕ
word n = codes " " ++ decimal n

-- a space and a number, as they were appended
appended_word : (n : ℕ) (printed : List ℕ) → printed ≡ decimal n → codes " " ++ (printed ++ []) ≡ word n
appended_word n printed e = ap (λ (xs : List ℕ). codes " " ++ xs) (append-nil printed ∙ e)

pub returns-in_err-push_all : goal.returns-in_err-push_all
returns-in_err-push_all c =
    let numbers = c.as_slice-number-items.result.now in
    let n = get_or numbers c.loop-number.number-index c.number-item.result in
    let printed : c.as_bytes.result.now ≡ decimal n = c.as_bytes.ensures.value ∙ c.format.ensures.text ∙ ap decimal (c.number.ensures ∙ c.number-item.is) in
    let front : AppendsFront c.loop-number.out c.push_all.new.out (word n) =
    subst (AppendsFront c.loop-number.out c.push_all.new.out) (appended_word n c.as_bytes.result.now printed) c.in_err-push_all.ensures in
    at_exit _ _ _ _ c.from_residual-in_err-push_all.ensures.0
    (front_of_item word numbers c.loop-number.number-index _ (codes "\n") c.loop-number-test.true c.loop-number.invariant front)

pub loop-number-preserved : goal.loop-number-preserved
loop-number-preserved c =
    let numbers = c.as_slice-number-items.result.now in
    let n = get_or numbers c.loop-number.number-index c.number-item.result in
    let printed : c.as_bytes.result.now ≡ decimal n = c.as_bytes.ensures.value ∙ c.format.ensures.text ∙ ap decimal (c.number.ensures ∙ c.number-item.is) in
    leaves_item word numbers c.loop-number.number-index c.number-item.result (codes "\n") c.loop-number-test.true c.loop-number.invariant
    (c.in_ok-push_all.ensures ∙ ap (λ (xs : List ℕ). c.loop-number.out ++ xs) (appended_word n c.as_bytes.result.now printed))

pub returns : goal.returns
returns c =
    ends _ _ (codes "\n") (leaves_no_item word c.as_slice-number-items.result.now c.loop-number.number-index
    (codes "\n") c.loop-number-test.false c.loop-number.invariant)
    (extended _ _ _ _ c.extend_from_slice-2.ensures.ok c.extend_from_slice-2.ensures.err)
