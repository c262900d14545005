use Rattle.std.proofs.Common.{◌≤◌, arith}
use Rattle.cgs_exps.specs.Monomial.{degree}
use Rattle.cgs_poly.specs.Polynomial.{Term}
use Rattle.cgs_problem.specs.Problems.{greatest_thesis_degree}
use Rattle.cgs_problem.specs.Terms.{HasRoom}
use Rattle.cgs_list.proofs.ListLemmas.{passes, fails}
use Rattle.cgs_problem.proofs.TermLemmas.{ring_places, poly_length}
use Rattle.cgs_problem.proofs.polynomial.has_room.Goals as goal

pub degree-requires : goal.degree-requires
degree-requires c = omega (
  arith,
  poly_length c.args.ring.now c.args.f.now c.loop-i.i _ c.requires.poly c.term.ensures,
  ring_places c.args.ring.now c.requires.ring,
)

pub returns-then-degree-gt-MAX_THESIS_DEGREE : goal.returns-then-degree-gt-MAX_THESIS_DEGREE
returns-then-degree-gt-MAX_THESIS_DEGREE c =
    fails (λ (x : Term). degree x.exponents ≤ greatest_thesis_degree) (HasRoom c.args.f.now) c.args.f.now c.loop-i.i _ c.term.ensures
    (λ low. omega arith) c.loop-i.invariant

pub loop-i-preserved : goal.loop-i-preserved
loop-i-preserved c = passes (λ (x : Term). degree x.exponents ≤ greatest_thesis_degree) (HasRoom c.args.f.now) c.args.f.now c.loop-i.i _ c.term.ensures
    (omega arith) c.loop-i.invariant
