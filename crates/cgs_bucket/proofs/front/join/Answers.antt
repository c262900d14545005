use Rattle.std.proofs.Common.{◌≡◌, ◌<◌, ◌+◌, ◌%◌, ℕ, List, [], length, get_or, set, drop, ap, sym, ◌∙◌, subst, arith}
use Rattle.std.proofs.lemmas.List.{get_or_read, length-drop, get_or-set_other, length-set}
use Rattle.cgs_terms.specs.Polynomial.{Term}
use Rattle.cgs_terms.specs.Product.{leading_coefficient}
use Rattle.cgs_terms.specs.Flat.{with_coefficient}
use Rattle.cgs_bucket.proofs.LevelLemmas.{joined_same, joined_fewer, first_is, first_below, polys_at, drop_poly, with_first_poly, with_first_total}
use Rattle.cgs_bucket.proofs.LevelLemmas.{with_length}
use Rattle.cgs_bucket.proofs.front.join.Goals as goal
use Rattle.cgs_bucket.proofs.front.join.Goals.{After-first-second, After-drop_first}

first_term : (c : After-first-second) → leading_coefficient (get_or c.args.levels.now.items c.args.a []) ≡ c.first-first.result.coefficient
first_term c =
    let l : c.args.a < length c.args.levels.now.items = omega (arith, c.requires.tie.rising, c.requires.tie.within) in
    let e : c.index.result.now ≡ get_or c.args.levels.now.items c.args.a [] =
    get_or_read c.args.levels.now.items c.args.a c.index.result.now l c.index.ensures [] in
    (first_is (get_or c.args.levels.now.items c.args.a []) c.first-first.result.coefficient c.first-first.result.exponents.now
    (rw (← e) c.first-first.ensures)).0

second_term : (c : After-first-second) → leading_coefficient (get_or c.args.levels.now.items c.args.b []) ≡ c.first-second.result.coefficient
second_term c =
    let e : c.index-2.result.now ≡ get_or c.args.levels.now.items c.args.b [] =
    get_or_read c.args.levels.now.items c.args.b c.index-2.result.now c.requires.tie.within c.index-2.ensures [] in
    (first_is (get_or c.args.levels.now.items c.args.b []) c.first-second.result.coefficient c.first-second.result.exponents.now
    (rw (← e) c.first-second.ensures)).0

left : (c : After-first-second) → c.first-first.result.coefficient < c.args.ring.now.modulus
left c = subst (λ n. n < c.args.ring.now.modulus) (first_term c) (first_below c.args.ring.now (get_or c.args.levels.now.items c.args.a [])
    (polys_at c.args.ring.now c.args.levels.now.items c.args.a c.requires.polys) c.requires.tie.first)

right : (c : After-first-second) → c.first-second.result.coefficient < c.args.ring.now.modulus
right c = subst (λ n. n < c.args.ring.now.modulus) (second_term c) (first_below c.args.ring.now (get_or c.args.levels.now.items c.args.b [])
    (polys_at c.args.ring.now c.args.levels.now.items c.args.b c.requires.polys) c.requires.tie.second)

pub add-sum-requires-clause-left : goal.add-sum-requires-clause-left
add-sum-requires-clause-left c = left (goal.at.add-sum-requires-clause-left c).After-first-second

pub add-sum-requires-clause-right : goal.add-sum-requires-clause-right
add-sum-requires-clause-right c = right (goal.at.add-sum-requires-clause-right c).After-first-second

-- the level that loses its first term
b_is : (c : After-drop_first) → c.drop_first.new.self ≡ drop 1 (get_or c.args.levels.now.items c.args.b [])
b_is c =
    c.drop_first.ensures
    ∙ ap (λ f. drop 1 f) (get_or_read c.args.levels.now.items c.args.b c.index_mut.result.now c.requires.tie.within c.index_mut.ensures.value [])

-- what the other level is then
a_is : (c : After-drop_first) (now : List Term) → now ≡ get_or (set c.args.levels.now.items c.args.b c.drop_first.new.self) c.args.a now
    → now ≡ get_or c.args.levels.now.items c.args.a []
a_is c now e =
    let l : c.args.a < length (set c.args.levels.now.items c.args.b c.drop_first.new.self) =
    omega (arith, c.requires.tie.rising, c.requires.tie.within, length-set c.args.levels.now.items c.args.b c.drop_first.new.self) in
    get_or_read (set c.args.levels.now.items c.args.b c.drop_first.new.self) c.args.a now l e []
    ∙ get_or-set_other c.args.levels.now.items c.args.b c.args.a c.drop_first.new.self [] (λ q. omega (arith, c.requires.tie.rising, q))

sum_is : (c : After-first-second) (s : ℕ) → s ≡ (c.first-first.result.coefficient + c.first-second.result.coefficient) % c.args.ring.now.modulus
    → s ≡ (leading_coefficient (get_or c.args.levels.now.items c.args.a []) + leading_coefficient (get_or c.args.levels.now.items c.args.b [])) %
    c.args.ring.now.modulus
sum_is c s e = rw (first_term c, second_term c) e

positive : (c : After-first-second) → 0 < c.args.ring.now.modulus
positive c = omega (arith, left c)

pub returns-then-number-eq0-clause-same : goal.returns-then-number-eq0-clause-same
returns-then-number-eq0-clause-same c =
    let d = (goal.at.returns-then-number-eq0-clause-same c).After-drop_first in
    let t = (goal.at.returns-then-number-eq0-clause-same c).After-first-second in
    let L = c.args.levels.now.items in
    let ring = c.args.ring.now in
    let z : c.add-sum.result ≡ 0 = sym c.number.ensures ∙ c.if-number-eq0.true in
    let f : c.drop_first-then-number-eq0.new.self ≡ drop 1 (get_or L c.args.a []) =
    c.drop_first-then-number-eq0.ensures ∙ ap (λ g. drop 1 g) (a_is d c.index_mut-then-number-eq0.result.now c.index_mut-then-number-eq0.ensures.value) in
    rw (f, b_is d) (joined_same ring (positive t) L c.requires.polys c.args.a c.args.b c.requires.tie 0 (drop 1 (get_or L c.args.a []))
    (sym z ∙ sum_is t c.add-sum.result c.add-sum.ensures.value) (λ w. omega arith)
    (drop_poly ring (get_or L c.args.a []) (polys_at ring L c.args.a c.requires.polys)))

pub returns-then-number-eq0-clause-fewer : goal.returns-then-number-eq0-clause-fewer
returns-then-number-eq0-clause-fewer c =
    let d = (goal.at.returns-then-number-eq0-clause-fewer c).After-drop_first in
    let t = (goal.at.returns-then-number-eq0-clause-fewer c).After-first-second in
    let L = c.args.levels.now.items in
    let ring = c.args.ring.now in
    let z : c.add-sum.result ≡ 0 = sym c.number.ensures ∙ c.if-number-eq0.true in
    let f : c.drop_first-then-number-eq0.new.self ≡ drop 1 (get_or L c.args.a []) =
    c.drop_first-then-number-eq0.ensures ∙ ap (λ g. drop 1 g) (a_is d c.index_mut-then-number-eq0.result.now c.index_mut-then-number-eq0.ensures.value) in
    rw (f, b_is d) (joined_fewer ring (positive t) L c.requires.polys c.args.a c.args.b c.requires.tie 0 (drop 1 (get_or L c.args.a []))
    (sym z ∙ sum_is t c.add-sum.result c.add-sum.ensures.value) (λ w. omega arith)
    (drop_poly ring (get_or L c.args.a []) (polys_at ring L c.args.a c.requires.polys)) (omega (arith, length-drop 1 (get_or L c.args.a []))))

pub returns-else-number-eq0-clause-same : goal.returns-else-number-eq0-clause-same
returns-else-number-eq0-clause-same c =
    let d = (goal.at.returns-else-number-eq0-clause-same c).After-drop_first in
    let t = (goal.at.returns-else-number-eq0-clause-same c).After-first-second in
    let L = c.args.levels.now.items in
    let ring = c.args.ring.now in
    let f : c.set_first.new.self ≡ with_coefficient 0 c.add-sum.result (get_or L c.args.a []) =
    c.set_first.ensures ∙ ap (λ g. with_coefficient 0 c.add-sum.result g)
    (a_is d c.index_mut-else-number-eq0.result.now c.index_mut-else-number-eq0.ensures.value) in
    rw (f, b_is d) (joined_same ring (positive t) L c.requires.polys c.args.a c.args.b c.requires.tie c.add-sum.result
    (with_coefficient 0 c.add-sum.result (get_or L c.args.a [])) (sum_is t c.add-sum.result c.add-sum.ensures.value)
    (λ w. with_first_total w c.add-sum.result (get_or L c.args.a []) c.requires.tie.first)
    (with_first_poly ring c.add-sum.result (get_or L c.args.a []) (omega (arith, c.number.ensures, c.if-number-eq0.false)) c.add-sum.ensures.below
    (polys_at ring L c.args.a c.requires.polys)))

pub returns-else-number-eq0-clause-fewer : goal.returns-else-number-eq0-clause-fewer
returns-else-number-eq0-clause-fewer c =
    let d = (goal.at.returns-else-number-eq0-clause-fewer c).After-drop_first in
    let t = (goal.at.returns-else-number-eq0-clause-fewer c).After-first-second in
    let L = c.args.levels.now.items in
    let ring = c.args.ring.now in
    let f : c.set_first.new.self ≡ with_coefficient 0 c.add-sum.result (get_or L c.args.a []) =
    c.set_first.ensures ∙ ap (λ g. with_coefficient 0 c.add-sum.result g)
    (a_is d c.index_mut-else-number-eq0.result.now c.index_mut-else-number-eq0.ensures.value) in
    rw (f, b_is d) (joined_fewer ring (positive t) L c.requires.polys c.args.a c.args.b c.requires.tie c.add-sum.result
    (with_coefficient 0 c.add-sum.result (get_or L c.args.a [])) (sum_is t c.add-sum.result c.add-sum.ensures.value)
    (λ w. with_first_total w c.add-sum.result (get_or L c.args.a []) c.requires.tie.first)
    (with_first_poly ring c.add-sum.result (get_or L c.args.a []) (omega (arith, c.number.ensures, c.if-number-eq0.false)) c.add-sum.ensures.below
    (polys_at ring L c.args.a c.requires.polys)) (omega (arith, with_length 0 c.add-sum.result (get_or L c.args.a []))))
