use Rattle.std.proofs.Common.{◌≡◌, ◌-◌, ◌++◌, List, [], length, get_or, ap, sym, ◌∙◌, subst, arith}
use Rattle.std.proofs.lemmas.List.{get_or_read}
use Rattle.cgs_terms.specs.declared.ring.Ring.{Ring}
use Rattle.cgs_terms.specs.Polynomial.{Term, IsOfRing, IsCanonical, canonical}
use Rattle.cgs_terms.specs.Product.{multiple}
use Rattle.cgs_terms.specs.Draft.{HaveLength}
use Rattle.cgs_terms.proofs.CanonicalLemmas.{canonical_of_ring}
use Rattle.cgs_terms.proofs.RingLemmas.{modulus_positive}
use Rattle.cgs_terms.proofs.PlaceLemmas.{canonical_length}
use Rattle.cgs_terms.proofs.ProductLemmas.{multiple_of_ring, multiple_low, can_multiply}
use Rattle.cgs_terms.proofs.ChangedLemmas.{multiple_canonical, canonical_with_multiple}
use Rattle.cgs_bucket.proofs.LevelLemmas.{polys_at, top_added, level_pushed, added_after}
use Rattle.cgs_bucket.proofs.levels.add.Goals as goal
use Rattle.cgs_bucket.proofs.levels.add.Goals.{After-flat, After-len-n}

-- the last level
last_is : (c : After-flat) → c.flat.result ≡ get_or c.compact.new.levels.items (c.len-n.result - 1) []
last_is c =
    c.flat.ensures
    ∙ get_or_read c.compact.new.levels.items (c.len-n.result - 1) c.index-then-len.result.now
    (omega (arith, c.len-n.ensures, c.if-n-gt0.true, c.compact.new.levels.ok.0)) c.index-then-len.ensures []

of_ring : (c : After-len-n) → IsOfRing c.args.ring.now (multiple c.args.c c.args.m.now c.args.g.now)
of_ring c =
    multiple_of_ring c.args.ring.now c.args.c c.args.m.now c.args.g.now c.requires.places
    (canonical_of_ring c.args.ring.now c.args.g.now c.requires.second.canonical)

pub merged-requires-clause-first : goal.merged-requires-clause-first
merged-requires-clause-first c =
    subst (IsCanonical c.args.ring.now) (sym (last_is (goal.at.merged-requires-clause-first c).After-flat))
    (polys_at c.args.ring.now c.compact.new.levels.items (c.len-n.result - 1) c.compact.ensures.polys).canonical

pub merged-requires-clause-can : goal.merged-requires-clause-can
merged-requires-clause-can c =
    let h : HaveLength (length c.args.m.now) c.args.g.now = rw c.requires.places (canonical_length c.args.ring.now c.args.g.now c.requires.second.canonical) in
    can_multiply c.args.c c.args.ring.now.modulus c.args.m.now c.args.g.now c.requires.below (omega (arith, c.requires.places, c.requires.few)) h
    (λ s. multiple_low c.args.c c.args.m.now c.args.g.now h s c.requires.low)

pub merged-requires-clause-second : goal.merged-requires-clause-second
merged-requires-clause-second c =
    multiple_canonical c.args.ring.now c.args.c c.args.m.now c.args.g.now c.requires.modulus c.requires.positive c.requires.below
    c.requires.places c.requires.second.canonical

pub returns-then-len-clause-ok : goal.returns-then-len-clause-ok
returns-then-len-clause-ok c =
    let ring : Ring = c.args.ring.now in
    let L = c.compact.new.levels.items in
    let M : List Term = multiple c.args.c c.args.m.now c.args.g.now in
    let f = last_is (goal.at.returns-then-len-clause-ok c).After-flat in
    let s : c.in_ok-sum.sum ≡ canonical ring (get_or L (c.len-n.result - 1) [] ++ M) =
    c.in_ok-sum.ensures
    ∙ (canonical_with_multiple ring c.args.c c.args.m.now c.flat.result c.args.g.now c.requires.modulus c.requires.positive c.requires.below
    c.requires.places (subst (IsCanonical ring) (sym f) (polys_at ring L (c.len-n.result - 1) c.compact.ensures.polys).canonical)
    c.requires.second.canonical ∙ ap (λ h. canonical c.args.ring.now (h ++ multiple c.args.c c.args.m.now c.args.g.now)) f) in
    rw c.renew.ensures (added_after ring c.args.levels.now.items L _ M c.compact.ensures
    (top_added ring L (c.len-n.result - 1) c.in_ok-sum.sum M (modulus_positive ring.modulus c.requires.modulus) c.compact.ensures.polys
    (omega (arith, c.len-n.ensures, c.if-n-gt0.true, c.compact.new.levels.ok.0)) (of_ring (goal.at.returns-then-len-clause-ok c).After-len-n)
    c.requires.low s))

pub merged-requires-2-clause-can : goal.merged-requires-2-clause-can
merged-requires-2-clause-can c =
    let h : HaveLength (length c.args.m.now) c.args.g.now = rw c.requires.places (canonical_length c.args.ring.now c.args.g.now c.requires.second.canonical) in
    can_multiply c.args.c c.args.ring.now.modulus c.args.m.now c.args.g.now c.requires.below (omega (arith, c.requires.places, c.requires.few)) h
    (λ s. multiple_low c.args.c c.args.m.now c.args.g.now h s c.requires.low)

pub merged-requires-2-clause-second : goal.merged-requires-2-clause-second
merged-requires-2-clause-second c =
    multiple_canonical c.args.ring.now c.args.c c.args.m.now c.args.g.now c.requires.modulus c.requires.positive c.requires.below
    c.requires.places c.requires.second.canonical

pub returns-clause-ok : goal.returns-clause-ok
returns-clause-ok c =
    let ring : Ring = c.args.ring.now in
    let L = c.compact.new.levels.items in
    let M : List Term = multiple c.args.c c.args.m.now c.args.g.now in
    let s : c.in_ok-multiple.multiple ≡ canonical ring M =
    c.in_ok-multiple.ensures
    ∙ canonical_with_multiple ring c.args.c c.args.m.now c.new-nothing.result c.args.g.now c.requires.modulus c.requires.positive c.requires.below
    c.requires.places (subst (IsCanonical ring) (sym c.new-nothing.ensures) tt) c.requires.second.canonical
    ∙ ap (λ h. canonical c.args.ring.now (h ++ multiple c.args.c c.args.m.now c.args.g.now)) c.new-nothing.ensures in
    rw (c.in_ok-push.ensures.items, c.new.ensures) (added_after ring c.args.levels.now.items L _ M c.compact.ensures
    (level_pushed ring L c.in_ok-multiple.multiple M (modulus_positive ring.modulus c.requires.modulus) c.compact.ensures.polys
    (of_ring (goal.at.returns-clause-ok c).After-len-n) c.requires.low s))
