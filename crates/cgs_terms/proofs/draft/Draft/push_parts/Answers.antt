use Rattle.std.proofs.Common.{◌++◌, refl, ap, ◌∙◌, append_assoc, arith, length-append}
use Rattle.cgs_terms.proofs.DraftLemmas.{pushed}
use Rattle.cgs_terms.proofs.draft.Draft.push_parts.Goals as goal

pub returns : goal.returns
returns c =
    pushed c.args.self.now _ c.args.c (c.args.head.now ++ c.args.tail.now)
    c.requires.flat (omega (arith, c.requires.places, length-append c.args.head.now c.args.tail.now)) refl c.in_ok-push.ensures.items
    (c.in_ok-extend_from_slice-2.ensures.items
    ∙ (ap (λ es. es ++ c.args.tail.now) c.in_ok-extend_from_slice.ensures.items ∙ append_assoc c.args.self.now.exponents.items c.args.head.now c.args.tail.now))
