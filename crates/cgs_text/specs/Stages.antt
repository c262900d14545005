-- What the lines so far have said, as the program keeps it.
use Rattle.std.specs.Prelude.{◌≤◌, ◌++◌, ℕ, List, [], length, take, drop, bytes_eq, None}
use Rattle.std.specs.List.{IsDistinct}
use Rattle.cgs_field.specs.Prime.{IsModulus}
use Rattle.cgs_order.specs.declared.kind.Kind.TheVariants.{Lex}
use Rattle.cgs_problem.specs.declared.problem.Problem.{Problem}
use Rattle.cgs_problem.specs.Drafts.{Stage, parameters_line, variables_line, order_line, body, ended, PartialProblem, nothing}
use Rattle.cgs_problem.specs.Problems.{IsProblem}
use Rattle.cgs_problem.specs.Sums.{Reader}
use Rattle.cgs_text.specs.declared.header.Header.{Header}
use Rattle.cgs_text.specs.declared.progress.Progress.{Progress}
use Rattle.cgs_text.specs.declared.progress.Progress.TheVariants.{Field, Parameters, Variables, Order, Body, Ended}

-- The same as the definition has it. It keeps the parameters' names and the variables' apart.
abbrev pub in_header : Stage → ℕ → List (List ℕ) → List (List ℕ) → PartialProblem
in_header stage p parameters variables = record {
  stage = stage;
  modulus = p;
  parameters = parameters;
  variables = variables;
  kind = Lex;
  zero = [];
  nonzero = [];
  polys = [];
  thesis = None;
  points = [];
}

abbrev pub with_header : Stage → Problem → PartialProblem
with_header stage problem = record {
  stage = stage;
  modulus = problem.ring.modulus;
  parameters = drop problem.ring.variables problem.names;
  variables = take problem.ring.variables problem.names;
  kind = problem.ring.kind;
  zero = problem.zero;
  nonzero = problem.nonzero;
  polys = problem.polys;
  thesis = problem.thesis;
  points = problem.points;
}

abbrev pub meaning : Progress → PartialProblem
meaning Field = nothing
meaning (Parameters p) = in_header parameters_line p [] []
meaning (Variables p parameters) = in_header variables_line p parameters []
meaning (Order header) = in_header order_line header.modulus header.parameters header.variables
meaning (Body problem) = with_header body problem
meaning (Ended problem) = with_header ended problem

-- what a line of the body is read with
abbrev pub reader_of : Problem → ℕ → ℕ → Reader
reader_of problem barred most = record { ring = problem.ring; names = problem.names; barred = barred; most = most }

-- at most eight names of parameters
pub record AreParameters (names : List (List ℕ)) : Type 0 where
  pub few : length names ≤ 8
  pub distinct : IsDistinct bytes_eq names

pub record IsHeader (header : Header) : Type 0 where
  pub modulus : IsModulus header.modulus
  pub parameters : AreParameters header.parameters
  pub some : 1 ≤ length header.variables
  pub few : length header.variables ≤ 8
  pub distinct : IsDistinct bytes_eq (header.variables ++ header.parameters)

-- from the body on there is a valid problem
abbrev pub IsProgress : Progress → Type 0
IsProgress Field = Unit {0}
IsProgress (Parameters p) = IsModulus p
IsProgress (Variables p parameters) = IsModulus p × AreParameters parameters
IsProgress (Order header) = IsHeader header
IsProgress (Body problem) = IsProblem problem
IsProgress (Ended problem) = IsProblem problem
