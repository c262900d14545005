use Rattle.std.proofs.Common.{◌≡◌, ◌-◌, ◌++◌, [], get_or, ap, sym, ◌∙◌, subst, arith}
use Rattle.std.proofs.lemmas.List.{get_or_read}
use Rattle.cgs_terms.specs.declared.ring.Ring.{Ring}
use Rattle.cgs_terms.specs.Polynomial.{IsCanonical, canonical}
use Rattle.cgs_terms.proofs.PlaceLemmas.{changed_not, each_trivial}
use Rattle.cgs_terms.proofs.RingLemmas.{modulus_positive}
use Rattle.cgs_bucket.proofs.LevelLemmas.{polys_at, merged_same}
use Rattle.cgs_bucket.proofs.levels.merge_last.Goals as goal
use Rattle.cgs_bucket.proofs.levels.merge_last.Goals.{After-flat, After-flat-2}

-- the last two levels

first_is : (c : After-flat) → c.flat.result ≡ get_or c.args.levels.now.items (c.len-n.result - 2) []
first_is c =
    c.flat.ensures
    ∙ get_or_read c.args.levels.now.items (c.len-n.result - 2) c.index.result.now
    (omega (arith, c.len-n.ensures, c.requires.two, c.args.levels.now.ok.0)) c.index.ensures []

second_is : (c : After-flat-2) → c.flat-2.result ≡ get_or c.args.levels.now.items (c.len-n.result - 1) []
second_is c =
    c.flat-2.ensures
    ∙ get_or_read c.args.levels.now.items (c.len-n.result - 1) c.index-2.result.now
    (omega (arith, c.len-n.ensures, c.requires.two, c.args.levels.now.ok.0)) c.index-2.ensures []

second_canonical : (c : After-flat-2) → IsCanonical c.args.ring.now c.flat-2.result
second_canonical c =
    subst (IsCanonical c.args.ring.now) (sym (second_is c))
    (polys_at c.args.ring.now c.args.levels.now.items (c.len-n.result - 1) c.requires.polys).canonical

pub merged-requires-clause-first : goal.merged-requires-clause-first
merged-requires-clause-first c =
    subst (IsCanonical c.args.ring.now) (sym (first_is (goal.at.merged-requires-clause-first c).After-flat))
    (polys_at c.args.ring.now c.args.levels.now.items (c.len-n.result - 2) c.requires.polys).canonical

pub merged-requires-clause-terms : goal.merged-requires-clause-terms
merged-requires-clause-terms c = second_canonical (goal.at.merged-requires-clause-terms c).After-flat-2

pub merged-requires-clause-can : goal.merged-requires-clause-can
merged-requires-clause-can c = each_trivial c.flat-2.result

pub merged-requires-clause-second : goal.merged-requires-clause-second
merged-requires-clause-second c =
    subst (IsCanonical c.args.ring.now) (sym (changed_not c.flat-2.result)) (second_canonical (goal.at.merged-requires-clause-second c).After-flat-2)

pub returns-clause-same : goal.returns-clause-same
returns-clause-same c =
    let i = (goal.at.returns-clause-same c).After-flat in
    let j = (goal.at.returns-clause-same c).After-flat-2 in
    let ring : Ring = c.args.ring.now in
    let L = c.args.levels.now.items in
    let s : c.in_ok-sum.sum ≡ canonical ring (get_or L (c.len-n.result - 2) [] ++ get_or L (c.len-n.result - 1) []) =
    c.in_ok-sum.ensures
    ∙ (ap (λ g. canonical c.args.ring.now (c.flat.result ++ g)) (changed_not c.flat-2.result ∙ second_is j)
    ∙ ap (λ f. canonical c.args.ring.now (f ++ get_or c.args.levels.now.items (c.len-n.result - 1) [])) (first_is i)) in
    rw (c.truncate.ensures.items, c.renew.ensures) (merged_same ring L c.len-n.result c.in_ok-sum.sum
    (modulus_positive ring.modulus c.requires.modulus) c.requires.polys
    (omega (arith, c.len-n.ensures, c.args.levels.now.ok.0)) (omega (arith, c.len-n.ensures, c.requires.two, c.args.levels.now.ok.0)) s)
