use Rattle.std.proofs.Common.{◌≡◌, ◌↔◌, true, false, ◌∷◌, length, bytes_eq, subst, rules}
use Rattle.std.specs.List.{list_any, IsDistinct}
use Rattle.cgs_problem.proofs.NameLemmas.{new_name, old_name, no_names}
use Rattle.cgs_problem.proofs.validity.are_distinct.Goals as goal

pub returns-then-contains : goal.returns-then-contains
returns-then-contains c =
    let found : list_any (bytes_eq c.in-Some.name.now) c.in-Some.after.now ≡ true = search rules in
    let cells : c.loop-name.rest.now ≡ c.in-Some.name.now ∷ c.in-Some.after.now = search rules in
    old_name (IsDistinct bytes_eq c.args.names.now) c.in-Some.name.now c.in-Some.after.now found
    (subst (λ ys. IsDistinct bytes_eq ys ↔ IsDistinct bytes_eq c.args.names.now) cells c.loop-name.invariant)

pub loop-name-preserved : goal.loop-name-preserved
loop-name-preserved c =
    let found : list_any (bytes_eq c.in-Some.name.now) c.in-Some.after.now ≡ false = search rules in
    let cells : c.loop-name.rest.now ≡ c.in-Some.name.now ∷ c.in-Some.after.now = search rules in
    new_name (IsDistinct bytes_eq c.args.names.now) c.in-Some.name.now c.in-Some.after.now found
    (subst (λ ys. IsDistinct bytes_eq ys ↔ IsDistinct bytes_eq c.args.names.now) cells c.loop-name.invariant)

pub returns : goal.returns
returns c =
    let none : length c.loop-name.rest.now ≡ 0 = search rules in
    no_names (IsDistinct bytes_eq c.args.names.now) c.loop-name.rest.now none c.loop-name.invariant
