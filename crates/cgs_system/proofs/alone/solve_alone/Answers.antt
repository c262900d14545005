use Rattle.cgs_board.proofs.BoardLemmas.{complete_more}
use Rattle.cgs_split.specs.NodeRun.{node_of}
use Rattle.cgs_system.proofs.Listing.{found_map, listed_comprehensive, listed_of_ring, listed_consistent, listed_exact}
use Rattle.cgs_system.proofs.alone.solve_alone.Goals as goal

pub returns-clause-history : goal.returns-clause-history
returns-clause-history c =
    let complete = rw c.in_ok-root.ensures.value at c.in_ok-board.ensures.complete in
    found_map c.solution_of.result (λ solution e workers some. rw e (complete_more node_of _ 1 workers _ some complete)) c.solution_of.ensures.history

pub returns-clause-comprehensive : goal.returns-clause-comprehensive
returns-clause-comprehensive c =
    let listed = rw (c.in_ok-board.ensures.root, c.in_ok-root.ensures.value) at c.solution_of.ensures.list in
    found_map c.solution_of.result (λ solution e. listed_comprehensive c.args.problem.now c.args.limits.now solution.entries c.requires e) listed

pub returns-clause-of_ring : goal.returns-clause-of_ring
returns-clause-of_ring c =
    let listed = rw (c.in_ok-board.ensures.root, c.in_ok-root.ensures.value) at c.solution_of.ensures.list in
    found_map c.solution_of.result (λ solution e. listed_of_ring c.args.problem.now c.args.limits.now solution.entries c.requires e) listed

pub returns-clause-exact : goal.returns-clause-exact
returns-clause-exact c =
    let listed = rw (c.in_ok-board.ensures.root, c.in_ok-root.ensures.value) at c.solution_of.ensures.list in
    found_map c.solution_of.result (λ solution e tested. listed_exact c.args.problem.now c.args.limits.now solution.entries c.requires e tested) listed

pub returns-clause-consistent : goal.returns-clause-consistent
returns-clause-consistent c =
    let listed = rw (c.in_ok-board.ensures.root, c.in_ok-root.ensures.value) at c.solution_of.ensures.list in
    found_map c.solution_of.result (λ solution e. listed_consistent c.args.problem.now c.args.limits.now solution.entries c.requires e) listed
