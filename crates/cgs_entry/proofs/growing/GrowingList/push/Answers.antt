use Rattle.std.proofs.Common.{sym, subst}
use Rattle.cgs_list.proofs.ListLemmas.{all_push}
use Rattle.cgs_entry.specs.Index.{IsIndexed, AreIndexed}
use Rattle.cgs_entry.proofs.IndexLemmas.{all_kept, new_indexed}
use Rattle.cgs_entry.proofs.growing.GrowingList.push.Goals as goal

pub invariant_of-self-in_err-push : goal.invariant_of-self-in_err-push
invariant_of-self-in_err-push c =
    subst (λ L. AreIndexed c.insert.new.self.entries (λ k. k.items) L) (sym c.in_err-push.ensures.err)
    (subst (λ es. AreIndexed es (λ k. k.items) c.self.inside.members) (sym c.in_ok-insert.ensures.entries)
    (all_kept (λ k. k.items) c.args.numbers c.len.result c.self.inside.index.entries c.self.inside.members c.self.invariant))

pub invariant_of-self-2 : goal.invariant_of-self-2
invariant_of-self-2 c =
    let kept = subst (λ es. AreIndexed es (λ k. k.items) c.self.inside.members) (sym c.in_ok-insert.ensures.entries)
    (all_kept (λ k. k.items) c.args.numbers c.len.result c.self.inside.index.entries c.self.inside.members c.self.invariant) in
    let fresh = subst (λ es. IsIndexed es (λ k. k.items) c.args.f) (sym c.in_ok-insert.ensures.entries)
    (new_indexed (λ k. k.items) c.args.numbers c.len.result c.self.inside.index.entries c.args.f c.requires) in
    subst (λ L. AreIndexed c.insert.new.self.entries (λ k. k.items) L) (sym c.in_ok-push.ensures.ok)
    (all_push (λ g. IsIndexed c.insert.new.self.entries (λ k. k.items) g) c.self.inside.members c.args.f kept fresh)
