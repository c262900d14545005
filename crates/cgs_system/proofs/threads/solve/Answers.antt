use Rattle.cgs_system.proofs.Listing.{found_map, listed_comprehensive, listed_of_ring, listed_consistent, listed_exact}
use Rattle.cgs_system.proofs.threads.solve.Goals as goal

pub returns-clause-comprehensive : goal.returns-clause-comprehensive
returns-clause-comprehensive g c =
    let listed = rw (c.in_ok-board.ensures.root, c.in_ok-root.ensures.value) at c.solution_of.ensures.list in
    found_map c.solution_of.result (λ solution e. listed_comprehensive c.args.problem.now c.args.limits.now solution.entries c.requires.problem e) listed

pub returns-clause-of_ring : goal.returns-clause-of_ring
returns-clause-of_ring g c =
    let listed = rw (c.in_ok-board.ensures.root, c.in_ok-root.ensures.value) at c.solution_of.ensures.list in
    found_map c.solution_of.result (λ solution e. listed_of_ring c.args.problem.now c.args.limits.now solution.entries c.requires.problem e) listed

pub returns-clause-exact : goal.returns-clause-exact
returns-clause-exact g c =
    let listed = rw (c.in_ok-board.ensures.root, c.in_ok-root.ensures.value) at c.solution_of.ensures.list in
    found_map c.solution_of.result (λ solution e tested. listed_exact c.args.problem.now c.args.limits.now solution.entries c.requires.problem e tested) listed

pub returns-clause-consistent : goal.returns-clause-consistent
returns-clause-consistent g c =
    let listed = rw (c.in_ok-board.ensures.root, c.in_ok-root.ensures.value) at c.solution_of.ensures.list in
    found_map c.solution_of.result (λ solution e. listed_consistent c.args.problem.now c.args.limits.now solution.entries c.requires.problem e) listed
