-- The problem whose polynomials have no common zero where a thesis follows from the given ones (Rabinowitsch's trick: Cox, Little, O'Shea,
-- chapter 6, section 4), and the problem with the thesis among its polynomials.
use Rattle.std.specs.Prelude.{ℕ, ◌+◌, ◌-◌, Option, None, List, [], ◌∷◌, ◌++◌, map, replicate, codes}
use Rattle.std.specs.Option.{option_map}
use Rattle.cgs_poly.specs.Ring.{Ring}
use Rattle.cgs_poly.specs.Polynomial.{Term, term, places, canonical}
use Rattle.cgs_poly.specs.Product.{multiple}
use Rattle.cgs_poly.specs.Recast.{recast}
use Rattle.cgs_problem.specs.declared.problem.Problem.{Problem}

-- the ring with a variable y more, which stands first
abbrev pub with_variable : Ring → Ring
with_variable ring = record { modulus = ring.modulus; variables = ring.variables + 1; parameters = ring.parameters; kind = ring.kind }

-- a polynomial of the ring in it
abbrev pub lifted : Ring → List Term → List Term
lifted ring f = recast ring (with_variable ring) f

-- the monomial y of it
abbrev pub y : Ring → List ℕ
y ring = 1 ∷ replicate (places ring) 0

-- the terms of y*T - 1
abbrev pub y_thesis_terms : Ring → List Term → List Term
y_thesis_terms ring T = term (ring.modulus - 1) (replicate (places (with_variable ring)) 0) ∷ multiple 1 (y ring) (lifted ring T)

abbrev pub y_thesis : Ring → List Term → List Term
y_thesis ring T = canonical (with_variable ring) (y_thesis_terms ring T)

-- the polynomials with y*T - 1 as the last
abbrev pub refuting : Ring → List (List Term) → List Term → List (List Term)
refuting ring F T = map (lifted ring) F ++ y_thesis ring T ∷ []

-- the name of y
abbrev pub y_name : List ℕ
y_name = codes "_y"

-- how many variables a problem may have that gets one more
abbrev pub most_variables : ℕ
most_variables = 8

abbrev pub refuted : Problem → List Term → Problem
refuted problem T = record {
  ring = with_variable problem.ring;
  names = y_name ∷ problem.names;
  zero = map (lifted problem.ring) problem.zero;
  nonzero = map (lifted problem.ring) problem.nonzero;
  polys = refuting problem.ring problem.polys T;
  thesis = None;
  points = problem.points;
}

-- the problem with its thesis as the last polynomial
abbrev pub extended : Problem → List Term → Problem
extended problem T = record {
  ring = problem.ring;
  names = problem.names;
  zero = problem.zero;
  nonzero = problem.nonzero;
  polys = problem.polys ++ T ∷ [];
  thesis = None;
  points = problem.points;
}

-- the refutation of a problem that has a thesis, and that problem with its thesis
abbrev pub refutation : Problem → Option Problem
refutation problem = option_map (refuted problem) problem.thesis

abbrev pub with_thesis : Problem → Option Problem
with_thesis problem = option_map (extended problem) problem.thesis
