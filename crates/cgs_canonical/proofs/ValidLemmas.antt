-- A problem that some bytes spell is valid, and has names of letters and at most eight variables.
use Rattle.std.proofs.Common.{ℕ, ◌≡◌, ◌≤◌, List, [], ◌∷◌, ◌++◌, length, Option, Some, None, Ok, IfSome, bytes_eq, sym, subst, inl, inr, append_assoc, arith}
use Rattle.std.proofs.lemmas.List.{append-nil, length-append}
use Rattle.std.proofs.lemmas.Cmp.{nat_list_eq_equiv}
use Rattle.std.proofs.lemmas.Map.Keys.{IsDistinct-push}
use Rattle.std.specs.List.{AllByRecursion, IsDistinct}
use Rattle.cgs_list.proofs.ListLemmas.{all_append}
use Rattle.cgs_exps.specs.Monomial.{degree}
use Rattle.cgs_poly.specs.Polynomial.{Term, IsPoly, HasLowDegrees, ArePolys, greatest_degree}
use Rattle.cgs_poly.specs.Parameters.{HasNoVariables, IsCondition}
use Rattle.cgs_problem.specs.declared.problem.Problem.{Problem}
use Rattle.cgs_problem.specs.Drafts.{PartialProblem, names_of}
use Rattle.cgs_problem.specs.Problems.{IsProblem, IsThesis, greatest_thesis_degree}
use Rattle.cgs_problem.specs.Reading.{problem_of, problem_spelled}
use Rattle.cgs_problem.specs.Sums.{Reader}
use Rattle.cgs_canonical.proofs.LexemeLemmas.{IsName}
use Rattle.cgs_canonical.proofs.MonomialLemmas.{AreNew, IsAllowed}
use Rattle.cgs_canonical.proofs.PolynomialLemmas.{IsReadable}
use Rattle.cgs_canonical.proofs.HeaderLemmas.{HasHeader}
use Rattle.cgs_canonical.proofs.BodyLemmas.{reader_of, IsBody, new_beside}
use Rattle.cgs_canonical.proofs.SpelledLemmas.{spelled_valid}

distinct_after : (before names : List (List ℕ)) → IsDistinct bytes_eq before → AreNew before names → IsDistinct bytes_eq (before ++ names)
distinct_after before [] d new = subst (λ l. IsDistinct bytes_eq l) (sym (append-nil before)) d
distinct_after before (w ∷ names) d new =
    subst (λ l. IsDistinct bytes_eq l) (append_assoc before (w ∷ []) names)
    (distinct_after (before ++ w ∷ []) names (IsDistinct-push nat_list_eq_equiv before w d new.0) new.1)

none_distinct : IsDistinct {K = List ℕ} bytes_eq []
unfolding IsDistinct
none_distinct = tt

-- the variables' names and the parameters'
names_distinct : (d : PartialProblem) → HasHeader d → IsDistinct bytes_eq (names_of d)
names_distinct d h =
    let variables = distinct_after [] d.variables none_distinct h.variable_names.new in
    let beside = new_beside d.variables [] d.parameters h.parameter_names.new h.variable_names.apart in
    distinct_after d.variables d.parameters variables (subst (λ l. AreNew l d.parameters) (append-nil d.variables) beside)

low : (reader : Reader) (f : List Term) → reader.most ≤ greatest_degree → AllByRecursion (λ (t : Term). IsAllowed reader t.exponents) f → HasLowDegrees f
low reader [] le h = tt
low reader (x ∷ f) le h = (omega (arith, h.0.low), low reader f le h.1)

readable_poly : (reader : Reader) (f : List Term) → reader.most ≤ greatest_degree → IsReadable reader f → IsPoly reader.ring f
readable_poly reader f le h = record { canonical = h.canonical; low = low reader f le h.allowed }

polys : (reader : Reader) (F : List (List Term)) → reader.most ≤ greatest_degree → AllByRecursion (IsReadable reader) F → ArePolys reader.ring F
polys reader [] le h = tt
polys reader (f ∷ F) le h = (readable_poly reader f le h.0, polys reader F le h.1)

-- where all variables are barred and there are some
free : (reader : Reader) (f : List Term) → 1 ≤ reader.barred → AllByRecursion (λ (t : Term). IsAllowed reader t.exponents) f → HasNoVariables reader.ring f
free reader [] some h = tt
free reader (x ∷ f) some h = (elim h.0.free [ inl none ↦ absurd (omega arith) | inr absent ↦ absent ], free reader f some h.1)

conditions : (reader : Reader) (F : List (List Term)) → 1 ≤ reader.barred → reader.most ≤ greatest_degree → AllByRecursion (IsReadable reader) F
    → AllByRecursion (IsCondition reader.ring) F
conditions reader [] some le h = tt
conditions reader (f ∷ F) some le h =
    (record { poly = readable_poly reader f le h.0; free = free reader f some h.0.allowed }, conditions reader F some le h.1)

below : (reader : Reader) (f : List Term) → reader.most ≤ greatest_thesis_degree → AllByRecursion (λ (t : Term). IsAllowed reader t.exponents) f
    → AllByRecursion (λ (x : Term). degree x.exponents ≤ greatest_thesis_degree) f
below reader [] le h = tt
below reader (x ∷ f) le h = (omega (arith, h.0.low), below reader f le h.1)

thesis : (reader : Reader) (f : Option (List Term)) → reader.most ≤ greatest_thesis_degree → IfSome f (IsReadable reader) → IfSome f (IsThesis reader.ring)
thesis reader None le h = tt
thesis reader (Some f) le h = record { poly = readable_poly reader f (omega arith) h; low = below reader f le h.allowed }

draft_valid : (d : PartialProblem) → HasHeader d → IsBody d → IsProblem (problem_of d)
draft_valid d h b = record {
  ring = record { modulus = h.modulus; some = h.some_variable; variables = omega (arith, h.few_variables); parameters = h.few_parameters };
  named = length-append d.variables d.parameters;
  distinct = names_distinct d h;
  zero = conditions (reader_of d (length d.variables) greatest_degree) d.zero h.some_variable (omega arith) b.zero;
  nonzero = conditions (reader_of d (length d.variables) greatest_degree) d.nonzero h.some_variable (omega arith) b.nonzero;
  polys = polys (reader_of d 0 greatest_degree) d.polys (omega arith) b.polys;
  thesis = thesis (reader_of d 0 greatest_thesis_degree) d.thesis (omega arith) b.thesis;
  points = b.points;
}

pub spelled_problem : (bytes : List ℕ) (problem : Problem) → problem_spelled bytes ≡ Ok problem → IsProblem problem
spelled_problem bytes problem e =
    let s = spelled_valid bytes problem e in
    subst IsProblem s.same (draft_valid s.draft s.header s.body)

pub spelled_names : (bytes : List ℕ) (problem : Problem) → problem_spelled bytes ≡ Ok problem → AllByRecursion IsName problem.names
spelled_names bytes problem e =
    let s = spelled_valid bytes problem e in
    let names = all_append IsName s.draft.variables s.draft.parameters s.header.variable_names.named s.header.parameter_names.named in
    subst (λ (p : Problem). AllByRecursion IsName p.names) s.same names

pub spelled_few_variables : (bytes : List ℕ) (problem : Problem) → problem_spelled bytes ≡ Ok problem → problem.ring.variables ≤ 8
spelled_few_variables bytes problem e =
    let s = spelled_valid bytes problem e in
    subst (λ (p : Problem). p.ring.variables ≤ 8) s.same s.header.few_variables
