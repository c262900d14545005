use Rattle.std.proofs.Common.{sym, ap, ◌∙◌}
use Rattle.std.specs.Prelude.{is_some}
use Rattle.std.specs.Option.{option_copied}
use Rattle.std.specs.Map.{lookup}
use Rattle.std.specs.Ordering.{nat_cmp, is_eq}
use Rattle.std.specs.Cmp.Lexicographic.{slice_cmp}
use Rattle.cgs_poly.specs.Same.{is_among}
use Rattle.cgs_entry.proofs.IndexLemmas.{not_found, at_place}
use Rattle.cgs_entry.proofs.growing.GrowingList.has.Goals as goal

pub returns-in_default : goal.returns-in_default
returns-in_default c =
    not_found (λ k. k.items) c.self.inside.index.entries c.args.f.now c.self.inside.members c.self.invariant
    (ap (λ n. is_some (lookup (λ k. is_eq (slice_cmp nat_cmp n k.items)) c.self.inside.index.entries)) (sym c.requires)
    ∙ ap is_some (sym c.get.ensures.value ∙ ap option_copied c.in_default.is))
    ∙ ap (is_among c.args.f.now) c.self.view_is

pub returns-then-same : goal.returns-then-same
returns-then-same c = at_place c.args.f.now c.self.inside.members c.in-Some.field-0.now c.get-then-place-len.result.now c.get-then-place-len.ensures
    (c.same.ensures.0 c.if-same.true)
    ∙ ap (is_among c.args.f.now) c.self.view_is
