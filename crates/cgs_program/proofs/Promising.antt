-- What the text due of each command but `check` is, by the laws of basis runs, of nodes and of refutations.
use Rattle.std.proofs.Common.{◌≡◌, ◌⊎◌, ◌==◌, ℕ, Bool, true, false, List, [], ◌∷◌, length, ◌<◌, Option, Some, None, Result, Ok, Err}
use Rattle.std.proofs.Common.{refl, sym, ◌∙◌, subst, inl, inr, arith}
use Rattle.std.specs.List.{AllByRecursion, list_any}
use Rattle.std.specs.Io.KnownBytes.{Keeps, Appends}
use Rattle.cgs_io.specs.Seen.{Seen}
use Rattle.cgs_poly.specs.Polynomial.{Term, IsPoly, IsCanonical}
use Rattle.cgs_poly.specs.Parameters.{IsCondition}
use Rattle.cgs_divide.specs.Ending.{Ending, ended, out_of_budget, out_of_degree}
use Rattle.cgs_algebra.specs.Groebner.{IsReduced, IsAscending}
use Rattle.cgs_basis.specs.BasisRun.{basis_run}
use Rattle.cgs_basis.proofs.BasisLemmas.{basis_reduced}
use Rattle.cgs_point.specs.Points.{IsPoint}
use Rattle.cgs_discover.specs.Refutation.{refuted, extended}
use Rattle.cgs_discover.proofs.PartLemmas.{refuted_valid}
use Rattle.cgs_discover.proofs.RefutationLemmas.{problem_thesis_follows}
use Rattle.cgs_entry.specs.declared.entry.Entry.{Entry}
use Rattle.cgs_entry.specs.Bases.{basis_of, ShowsOne}
use Rattle.cgs_entry.specs.Entries.{IsComprehensive, IsEntry, IsSound, is_refused}
use Rattle.cgs_entry.proofs.BasisLemmas.{basis_polys, sound_at}
use Rattle.cgs_gen.specs.Generator.{problem_of}
use Rattle.cgs_locate.proofs.LocateLemmas.{found_is_first, nowhere_outside, basis_serves}
use Rattle.cgs_report.proofs.PointLemmas.{report_at_point}
use Rattle.cgs_problem.specs.declared.problem.Problem.{Problem}
use Rattle.cgs_problem.specs.declared.fault.TextFault.{TextFault}
use Rattle.cgs_problem.specs.Problems.{IsProblem, IsThesis}
use Rattle.cgs_problem.specs.Reading.{problem_spelled}
use Rattle.cgs_print.specs.Printing.{basis_text}
use Rattle.cgs_print.specs.Locating.{located_text}
use Rattle.cgs_canonical.proofs.ValidLemmas.{spelled_problem}
use Rattle.cgs_list.proofs.ListLemmas.{all_append, all_weaker}
use Rattle.cgs_split.proofs.ShowingLemmas.{entries_show_one}
use Rattle.cgs_split.specs.declared.kind.Limits.{Limits}
use Rattle.cgs_system.proofs.Listing.{listed_comprehensive, listed_of_ring, listed_consistent}
use Rattle.cgs_words.specs.declared.plan.Command.TheVariants.{Basis, Solve, Locate, Discover, Stress}
use Rattle.cgs_words.specs.declared.plan.Plan.{Plan}
use Rattle.cgs_words.specs.declared.plan.WordFault.{WordFault}
use Rattle.cgs_words.specs.Words.{plan_of}
use Rattle.cgs_program.specs.declared.status.Status.{Status}
use Rattle.cgs_program.specs.declared.status.Status.TheVariants as status
use Rattle.cgs_program.specs.Due.{Got, nothing_read, whole, too_long, Answer, answer, answer_of, basis_answer, list_answer, located_answer, pair_answer}
use Rattle.cgs_program.specs.Due.{discovered_answer, summary_answer, generators_of, limits_of, entries_within, status_of, own_problem, asks_history}
use Rattle.cgs_program.specs.Due.{IsThe, IsWhole, IsAnswer, IsReply, IsDueTo}
use Rattle.cgs_program.specs.Run.{Took, Writes, Ends}
use Rattle.cgs_program.specs.Promises.{HasRead, IsSystemOf, IsPlaced, IsReported, KeepsBasis, KeepsSystem, KeepsLocated}
use Rattle.cgs_program.specs.Promises.{KeepsDiscovered, KeepsSummary, KeepsAll}
use Rattle.cgs_program.proofs.Completing.{completes}
use Rattle.cgs_program.proofs.Refutable.{spelled_refutable}

-- a text that is the answer for what was read
record IsAnswered (plan : Plan) (a b c d : Seen) (end : Status) : Type 0 where
  problem : Problem
  read : HasRead a b problem
  text : List ℕ
  answered : IsAnswer plan problem text end
  written : Appends c.bytes d.bytes text

-- a text that is the answer for the problem that the command makes by itself
record IsUnreadAnswer (plan : Plan) (problem : Problem) (a b c d : Seen) (end : Status) : Type 0 where
  unread : Keeps a.bytes b.bytes
  valid : IsProblem problem
  text : List ℕ
  answered : IsAnswer plan problem text end
  written : Appends c.bytes d.bytes text

-- With status 0 or 3 the text was the answer for a problem: a fault's line comes with another status.
module _ (plan : Plan) (a b c d : Seen) (end : Status) (answers : (end ≡ status.Text) → ⊥) where
  replied : (got : Got) (text : List ℕ) → own_problem plan ≡ None → Took got a b → IsDueTo plan got text end → Appends c.bytes d.bytes text
      → IsAnswered plan a b c d end
  replied nothing_read text reads taken due written = absurd (let no : None ≡ Some due.0 = sym reads ∙ due.1 in cc)
  replied too_long text reads taken due written = absurd (answers due.2)
  replied (whole bytes) text reads taken due written = by_spelled (problem_spelled bytes) refl
    where
      by_spelled : (r : Result Problem TextFault) → problem_spelled bytes ≡ r → IsAnswered plan a b c d end
      by_spelled (Ok problem) e = record {
        problem = problem;
        read = record { bytes = bytes; taken = taken; spelled = e };
        text = text;
        answered = subst (λ (x : Result Problem TextFault). IsReply plan x text end) e due.1;
        written = written;
      }
      by_spelled (Err fault) e = absurd (answers (subst (λ (x : Result Problem TextFault). IsReply plan x text end) e due.1).1)

  unread_replied : (problem : Problem) (got : Got) (text : List ℕ) → own_problem plan ≡ Some problem → Took got a b → IsDueTo plan got text end
      → Appends c.bytes d.bytes text
      → IsUnreadAnswer plan problem a b c d end
  unread_replied problem nothing_read text own taken due written =
      let same : due.0 ≡ problem = (let e : Some due.0 ≡ Some problem = sym due.1 ∙ own in cc) in
      record {
        unread = taken;
        valid = subst IsProblem same due.2;
        text = text;
        answered = subst (λ x. IsAnswer plan x text end) same due.3;
        written = written;
      }
  unread_replied problem too_long text own taken due written = absurd (let no : None ≡ Some problem = sym due.0 ∙ own in cc)
  unread_replied problem (whole bytes) text own taken due written = absurd (let no : None ≡ Some problem = sym due.0 ∙ own in cc)

-- With status 0 or 3 a text was written, and the status is not that of a fault.
no_fault : (end : Status) → (end ≡ status.Done) ⊎ (end ≡ status.Partial) → end ≡ status.Text → ⊥
no_fault end (inl e) t = absurd (let no : status.Done ≡ status.Text = sym e ∙ t in cc)
no_fault end (inr e) t = absurd (let no : status.Partial ≡ status.Text = sym e ∙ t in cc)

wrote : (asked : Result Plan WordFault) (a b c d : Seen) (end : Status) → (end ≡ status.Done) ⊎ (end ≡ status.Partial) → Ends asked a b c d end
    → Writes asked a b c d end
wrote asked a b c d end (inl e) h = subst (λ (x : Status). Ends asked a b c d x → Writes asked a b c d x) (sym e) (λ h. h) h
wrote asked a b c d end (inr e) h = subst (λ (x : Status). Ends asked a b c d x → Writes asked a b c d x) (sym e) (λ h. h) h

module _ (words : List (List ℕ)) (plan : Plan) (a b c d : Seen) (end : Status) (planned : plan_of words ≡ Ok plan)
    (z : (end ≡ status.Done) ⊎ (end ≡ status.Partial)) (ends : Ends (plan_of words) a b c d end) where
  writes : Writes (Ok plan) a b c d end
  writes = subst (λ (asked : Result Plan WordFault). Writes asked a b c d end) planned (wrote (plan_of words) a b c d end z ends)

  answered : own_problem plan ≡ None → IsAnswered plan a b c d end
  answered reads =
      replied plan a b c d end (no_fault end z) writes.settles.got writes.text reads writes.settles.taken writes.settles.due writes.written

  unread_answered : (problem : Problem) → own_problem plan ≡ Some problem → IsUnreadAnswer plan problem a b c d end
  unread_answered problem own =
      unread_replied plan a b c d end (no_fault end z) problem writes.settles.got writes.text own writes.settles.taken writes.settles.due writes.written

-- the answer for a command that prints no history
alone : (plan : Plan) (problem : Problem) (wanted : Answer) (text : List ℕ) (end : Status) → asks_history plan ≡ false
    → answer_of plan problem ≡ wanted → IsAnswer plan problem text end → IsThe wanted text end
alone plan problem wanted text end none same a =
    subst (λ x. IsThe x text end) same (subst (λ asked. IsWhole asked plan problem (answer_of plan problem) text end) none a)

-- the answer of a plan with a command
of_basis : (plan : Plan) (problem : Problem) → plan.command ≡ Basis
    → answer_of plan problem ≡ basis_answer problem (basis_run problem.ring (generators_of problem) plan.budget)
of_basis plan problem e = rw e refl

of_solve : (plan : Plan) (problem : Problem) → plan.command ≡ Solve → answer_of plan problem ≡ list_answer problem (entries_within (limits_of plan) problem)
of_solve plan problem e = rw e refl

of_locate : (plan : Plan) (problem : Problem) → plan.command ≡ Locate
    → answer_of plan problem ≡ located_answer problem (entries_within (limits_of plan) problem)
of_locate plan problem e = rw e refl

of_discover : (plan : Plan) (problem : Problem) → plan.command ≡ Discover
    → answer_of plan problem ≡ discovered_answer (limits_of plan) problem problem.thesis
of_discover plan problem e = rw e refl

of_stress : (plan : Plan) (problem : Problem) (number : ℕ) → plan.command ≡ Stress number
    → answer_of plan problem ≡ summary_answer number problem (entries_within (limits_of plan) problem)
of_stress plan problem number e = rw e refl

-- the polynomials and the conditions that have to vanish are canonical
generators_canonical : (problem : Problem) → IsProblem problem → AllByRecursion (IsCanonical problem.ring) (generators_of problem)
generators_canonical problem p =
    let polys = all_weaker (IsPoly problem.ring) (IsCanonical problem.ring) problem.polys p.polys (λ f q. q.canonical) in
    let vanishing = all_weaker (IsCondition problem.ring) (IsCanonical problem.ring) problem.zero p.zero (λ f q. q.poly.canonical) in
    all_append (IsCanonical problem.ring) problem.polys problem.zero polys vanishing

-- what a basis run that ends with status 0 has found
record IsFoundBasis (problem : Problem) (text : List ℕ) : Type 0 where
  basis : List (List Term)
  reduced : IsReduced problem.ring basis (generators_of problem)
  ascending : IsAscending problem.ring basis
  printed : text ≡ basis_text problem basis

basis_found : (problem : Problem) (units : ℕ) (text : List ℕ) (end : Status) (run : Ending (List (List Term)))
    → basis_run problem.ring (generators_of problem) units ≡ run
    → IsProblem problem
    → end ≡ status.Done → IsThe (basis_answer problem run) text end → IsFoundBasis problem text
basis_found problem units text end (ended basis left) e p z a =
    let found = basis_reduced problem.ring (generators_of problem) basis units left p.ring (generators_canonical problem p) e in
    record { basis = basis; reduced = found.0; ascending = found.1; printed = a.0 }
basis_found problem units text end (out_of_budget left) e p z a = absurd (let no : status.Done ≡ status.Partial = sym z ∙ a.1 in cc)
basis_found problem units text end (out_of_degree left) e p z a = absurd (let no : status.Done ≡ status.Partial = sym z ∙ a.1 in cc)

keeps_basis : (words : List (List ℕ)) (a b c d : Seen) (end : Status) → Ends (plan_of words) a b c d end → KeepsBasis words a b c d end
keeps_basis words a b c d end h asks z =
    let plan = asks.plan in
    let w = answered words plan a b c d end asks.planned (inl z) h (rw asks.asked refl) in
    let valid = spelled_problem w.read.bytes w.problem w.read.spelled in
    let run = basis_run w.problem.ring (generators_of w.problem) plan.budget in
    let wanted = alone plan w.problem (basis_answer w.problem run) w.text end (rw asks.asked refl) (of_basis plan w.problem asks.asked) w.answered in
    let found = basis_found w.problem plan.budget w.text end run refl valid z wanted in
    record {
      problem = w.problem;
      read = w.read;
      basis = found.basis;
      reduced = found.reduced;
      ascending = found.ascending;
      written = subst (λ text. Appends c.bytes d.bytes text) found.printed w.written;
    }

-- what is told of the entries of a list
all_reported : (problem : Problem) (entries : List Entry) → IsProblem problem → AllByRecursion (IsSound problem.ring problem.polys) entries
    → AllByRecursion (IsEntry problem.ring) entries
    → AllByRecursion (ShowsOne problem.ring) entries → AllByRecursion (IsReported problem) entries
all_reported problem [] valid sound of_ring shows = tt
all_reported problem (entry ∷ entries) valid sound of_ring shows = (
  λ solved point p inside.
      report_at_point problem.ring point problem.polys (basis_of entry.kind) valid.ring (basis_polys problem.ring entry.kind of_ring.0.found)
      (sound_at problem.ring problem.polys point entry sound.0 p inside entry.kind refl solved) shows.0,
  all_reported problem entries valid sound.1 of_ring.1 shows.1,
)

-- the entries of a valid problem's tree
system_of : (limits : Limits) (problem : Problem) → IsProblem problem → IsSystemOf limits problem (entries_within limits problem)
system_of limits problem valid =
    let entries = entries_within limits problem in
    let comprehensive = listed_comprehensive problem limits entries valid refl in
    let of_ring = listed_of_ring problem limits entries valid refl in
    record {
      of_tree = refl;
      of_ring = of_ring;
      comprehensive = comprehensive;
      reported =
          all_reported problem entries valid comprehensive.sound of_ring
          (entries_show_one problem.ring limits problem.zero problem.nonzero problem.polys);
      consistent = listed_consistent problem limits entries valid refl;
    }

keeps_system : (words : List (List ℕ)) (a b c d : Seen) (end : Status) → Ends (plan_of words) a b c d end → KeepsSystem words a b c d end
keeps_system words a b c d end h asks z =
    let plan = asks.plan in
    let w = answered words plan a b c d end asks.planned z h (rw asks.asked refl) in
    let limits = limits_of plan in
    let entries = entries_within limits w.problem in
    let history : asks_history plan ≡ plan.history = rw asks.asked refl in
    let asked = subst (λ x. IsWhole x plan w.problem (answer_of plan w.problem) w.text end) history w.answered in
    let wanted = subst (λ x. IsWhole plan.history plan w.problem x w.text end) (of_solve plan w.problem asks.asked) asked in
    record {
      problem = w.problem;
      read = w.read;
      entries = entries;
      system = system_of limits w.problem (spelled_problem w.read.bytes w.problem w.read.spelled);
      status = wanted.1;
      text = w.text;
      followed = wanted.0;
      written = w.written;
    }

-- where each point of a problem lies in a comprehensive list
module _ (problem : Problem) (entries : List Entry) (valid : IsProblem problem)
    (comprehensive : IsComprehensive problem.ring problem.zero problem.nonzero problem.polys entries) where
  point_placed : (point : List ℕ) → IsPoint problem.ring point → IsPlaced problem entries point
  point_placed point p = record {
    nowhere = nowhere_outside problem.ring problem.zero problem.nonzero problem.polys entries point comprehensive p;
    first = λ found e. found_is_first problem.ring entries point found e;
    basis = λ found entry e at solved.
        basis_serves problem.ring problem.zero problem.nonzero problem.polys entries point entry found valid.ring comprehensive p e at solved;
  }

  points_placed : AllByRecursion (IsPlaced problem entries) problem.points
  points_placed = all_weaker (IsPoint problem.ring) (IsPlaced problem entries) problem.points valid.points point_placed

some_point : (points : List (List ℕ)) → (length points == 0) ≡ false → 0 < length points
some_point [] e = absurd cc
some_point (point ∷ points) e = omega arith

-- what `locate` has answered that told no fault
record HasPlaces (problem : Problem) (entries : List Entry) (text : List ℕ) (end : Status) : Type 0 where
  pointed : 0 < length problem.points
  told : IsThe (answer (located_text problem entries) (status_of (list_any is_refused entries))) text end

has_places : (problem : Problem) (entries : List Entry) (text : List ℕ) (end : Status) (none : Bool) → (length problem.points == 0) ≡ none
    → (end ≡ status.Text → ⊥) → IsThe (located_answer problem entries) text end → HasPlaces problem entries text end
has_places problem entries text end true e answers a = absurd (answers (rw e at a).1)
has_places problem entries text end false e answers a = record { pointed = some_point problem.points e; told = rw e at a }

keeps_located : (words : List (List ℕ)) (a b c d : Seen) (end : Status) → Ends (plan_of words) a b c d end → KeepsLocated words a b c d end
keeps_located words a b c d end h asks z =
    let plan = asks.plan in
    let w = answered words plan a b c d end asks.planned z h (rw asks.asked refl) in
    let valid = spelled_problem w.read.bytes w.problem w.read.spelled in
    let limits = limits_of plan in
    let entries = entries_within limits w.problem in
    let comprehensive = listed_comprehensive w.problem limits entries valid refl in
    let wanted = alone plan w.problem (located_answer w.problem entries) w.text end (rw asks.asked refl) (of_locate plan w.problem asks.asked) w.answered in
    let found = has_places w.problem entries w.text end (length w.problem.points == 0) refl (no_fault end z) wanted in
    record {
      problem = w.problem;
      read = w.read;
      pointed = found.pointed;
      entries = entries;
      of_tree = refl;
      placed = points_placed w.problem entries valid comprehensive;
      status = found.told.1;
      written = subst (λ text. Appends c.bytes d.bytes text) found.told.0 w.written;
    }

-- the problem with its thesis as one more polynomial
extended_valid : (problem : Problem) (thesis : List Term) → IsProblem problem → IsPoly problem.ring thesis → IsProblem (extended problem thesis)
extended_valid problem thesis valid poly = record {
  ring = valid.ring;
  named = valid.named;
  distinct = valid.distinct;
  zero = valid.zero;
  nonzero = valid.nonzero;
  polys = all_append (IsPoly problem.ring) problem.polys (thesis ∷ []) valid.polys (poly, tt);
  thesis = tt;
  points = valid.points;
}

-- what `discover` has answered that told no fault
record HasPair (limits : Limits) (problem : Problem) (given : Option (List Term)) (text : List ℕ) (end : Status) : Type 0 where
  thesis : List Term
  is : given ≡ Some thesis
  told : IsThe (pair_answer limits (refuted problem thesis) (extended problem thesis)) text end

has_pair : (limits : Limits) (problem : Problem) (given : Option (List Term)) (text : List ℕ) (end : Status) → (end ≡ status.Text → ⊥)
    → IsThe (discovered_answer limits problem given) text end → HasPair limits problem given text end
has_pair limits problem None text end answers a = absurd (answers a.1)
has_pair limits problem (Some thesis) text end answers a = record { thesis = thesis; is = refl; told = a }

keeps_discovered : (words : List (List ℕ)) (a b c d : Seen) (end : Status) → Ends (plan_of words) a b c d end → KeepsDiscovered words a b c d end
keeps_discovered words a b c d end h asks z =
    let plan = asks.plan in
    let w = answered words plan a b c d end asks.planned z h (rw asks.asked refl) in
    let problem = w.problem in
    let limits = limits_of plan in
    let wanted =
    alone plan problem (discovered_answer limits problem problem.thesis) w.text end (rw asks.asked refl) (of_discover plan problem asks.asked) w.answered in
    let found = has_pair limits problem problem.thesis w.text end (no_fault end z) wanted in
    let valid = spelled_problem w.read.bytes problem w.read.spelled in
    let thesis : IsThesis problem.ring found.thesis = rw found.is at valid.thesis in
    let room = spelled_refutable w.read.bytes problem w.read.spelled in
    record {
      problem = problem;
      read = w.read;
      thesis = found.thesis;
      given = found.is;
      refuting = entries_within limits (refuted problem found.thesis);
      extending = entries_within limits (extended problem found.thesis);
      refutation = system_of limits (refuted problem found.thesis) (refuted_valid problem found.thesis valid room.0 room.1 thesis);
      extension = system_of limits (extended problem found.thesis) (extended_valid problem found.thesis valid thesis.poly);
      follows = λ point x one zeros. problem_thesis_follows problem found.thesis point x valid found.is one zeros;
      status = found.told.1;
      written = subst (λ text. Appends c.bytes d.bytes text) found.told.0 w.written;
    }

keeps_summary : (words : List (List ℕ)) (a b c d : Seen) (end : Status) → Ends (plan_of words) a b c d end → KeepsSummary words a b c d end
keeps_summary words a b c d end h number asks z =
    let plan = asks.plan in
    let problem = problem_of number in
    let w = unread_answered words plan a b c d end asks.planned z h problem (rw asks.asked refl) in
    let entries = entries_within (limits_of plan) problem in
    let wanted =
    alone plan problem (summary_answer number problem entries) w.text end (rw asks.asked refl) (of_stress plan problem number asks.asked) w.answered in
    record {
      unread = w.unread;
      entries = entries;
      system = system_of (limits_of plan) problem w.valid;
      status = wanted.1;
      written = subst (λ text. Appends c.bytes d.bytes text) wanted.0 w.written;
    }

-- All that a run promises follows from how it ends.
pub keeps_all : (words : List (List ℕ)) (a b c d : Seen) (end : Status) → Ends (plan_of words) a b c d end → KeepsAll words a b c d end
keeps_all words a b c d end h = record {
  run = h;
  complete = completes words a b c d end h;
  basis = keeps_basis words a b c d end h;
  system = keeps_system words a b c d end h;
  located = keeps_located words a b c d end h;
  discovered = keeps_discovered words a b c d end h;
  summary = keeps_summary words a b c d end h;
}
