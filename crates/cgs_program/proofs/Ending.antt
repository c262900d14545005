-- Which statuses come with a text, and what a run comes to whose text was written or not.
use Rattle.std.proofs.Common.{◌≡◌, ◌==◌, ◌||◌, if◌then◌else◌, ℕ, List, [], ◌++◌, length, Result, Ok, Err, Option, Some, None, IfOk, refl, sym}
use Rattle.std.proofs.Common.{ap, ◌∙◌, subst, inl, inr, Bool, true, false, arith}
use Rattle.std.specs.List.{AllByRecursion, list_any}
use Rattle.std.specs.Option.{option_map}
use Rattle.std.proofs.KnownBytes.{Keeps-refl, Consumes-nil, Consumes-kept}
use Rattle.cgs_io.specs.Seen.{Seen}
use Rattle.cgs_board.specs.declared.event.Event.{Event}
use Rattle.cgs_board.specs.History.{IsComplete}
use Rattle.cgs_divide.specs.Ending.{Ending, ended, out_of_budget, out_of_degree}
use Rattle.cgs_basis.specs.BasisRun.{basis_run}
use Rattle.cgs_poly.specs.Polynomial.{Term}
use Rattle.cgs_discover.specs.Refutation.{refuted, extended}
use Rattle.cgs_entry.specs.declared.entry.Entry.{Entry}
use Rattle.cgs_entry.specs.Entries.{IsEntry, is_refused}
use Rattle.cgs_problem.specs.declared.problem.Problem.{Problem}
use Rattle.cgs_problem.specs.declared.fault.TextFault.{TextFault}
use Rattle.cgs_problem.specs.Problems.{IsProblem}
use Rattle.cgs_problem.specs.Reading.{problem_spelled}
use Rattle.cgs_print.specs.History.{history_text}
use Rattle.cgs_print.specs.Locating.{located_text}
use Rattle.cgs_print.specs.Discovery.{discovered_text}
use Rattle.cgs_split.specs.declared.kind.Limits.{Limits}
use Rattle.cgs_split.specs.NodeRun.{node_of}
use Rattle.cgs_system.specs.declared.solution.Solution.{Solution}
use Rattle.cgs_words.specs.declared.plan.Command.{Command}
use Rattle.cgs_words.specs.declared.plan.Command.TheVariants.{Check, Basis, Solve, Locate, Discover, Stress}
use Rattle.cgs_words.specs.declared.plan.Plan.{Plan}
use Rattle.cgs_words.specs.declared.plan.WordFault.{WordFault}
use Rattle.cgs_program.specs.declared.status.Status.{Status}
use Rattle.cgs_program.specs.declared.status.Status.TheVariants as status
use Rattle.cgs_program.specs.declared.reply.Reply.{Reply}
use Rattle.cgs_program.specs.declared.reply.Halt.{Halt}
use Rattle.cgs_program.specs.declared.reply.Halt.TheVariants as halt
use Rattle.cgs_program.specs.Due.{Got, nothing_read, whole, too_long, answer, no_point, basis_answer, list_answer, pair_answer, discovered_answer, status_of}
use Rattle.cgs_program.specs.Due.{generators_of, entries_within, root_within, limits_of, answer_of, own_problem, IsThe, IsWhole, IsAnswer, IsReply}
use Rattle.cgs_program.specs.Due.{IsDueTo, IsDueFor, word_fault_text}
use Rattle.cgs_program.specs.Run.{Took, TookSome, Settles, Writes, Ends, Finishes, Makes, RepliesTo, Delivers, IsFoundBy}

-- a status with which a text is written
abbrev IsWritten : Status → Type 0
IsWritten status.Source = ⊥
IsWritten status.Sink = ⊥
IsWritten status.Memory = ⊥
IsWritten end = Unit {0}

along : (a b : Status) → a ≡ b → IsWritten b → IsWritten a
along a b e w = subst IsWritten (sym e) w

basis_written : (problem : Problem) (run : Ending (List (List Term))) → IsWritten (basis_answer problem run).end
basis_written problem (ended basis left) = tt
basis_written problem (out_of_budget left) = tt
basis_written problem (out_of_degree left) = tt

list_written : (refused : Bool) → IsWritten (status_of refused)
list_written true = tt
list_written false = tt

located_written : (none refused : Bool) (text : List ℕ) → IsWritten (if none then no_point else answer text (status_of refused)).end
located_written true refused text = tt
located_written false refused text = list_written refused

discovered_written : (plan : Plan) (problem : Problem) (thesis : Option (List Term)) → IsWritten (discovered_answer (limits_of plan) problem thesis).end
discovered_written plan problem None = tt
discovered_written plan problem (Some thesis) =
    let limits = limits_of plan in
    list_written
    (list_any is_refused (entries_within limits (refuted problem thesis)) || list_any is_refused (entries_within limits (extended problem thesis)))

answer_written : (plan : Plan) (problem : Problem) (text : List ℕ) (end : Status) → IsAnswer plan problem text end → IsWritten end
answer_written plan problem text end a = along end (answer_of plan problem).end a.1 (by_command plan.command refl)
  where
    by_command : (command : Command) → plan.command ≡ command → IsWritten (answer_of plan problem).end
    by_command Check e = rw e tt
    by_command Basis e = rw e (basis_written problem (basis_run problem.ring (generators_of problem) plan.budget))
    by_command Solve e = rw e (list_written (list_any is_refused (entries_within (limits_of plan) problem)))
    by_command Locate e =
        let entries = entries_within (limits_of plan) problem in
        rw e (located_written (length problem.points == 0) (list_any is_refused entries) (located_text problem entries))
    by_command Discover e = rw e (discovered_written plan problem problem.thesis)
    by_command (Stress number) e = rw e (list_written (list_any is_refused (entries_within (limits_of plan) problem)))

reply_written : (plan : Plan) (spelled : Result Problem TextFault) (text : List ℕ) (end : Status) → IsReply plan spelled text end → IsWritten end
reply_written plan (Ok problem) text end a = answer_written plan problem text end a
reply_written plan (Err fault) text end a = along end status.Text a.1 tt

due_written : (plan : Result Plan WordFault) (got : Got) (text : List ℕ) (end : Status) → IsDueFor plan got text end → IsWritten end
due_written (Ok plan) nothing_read text end a = answer_written plan a.0 text end a.3
due_written (Ok plan) (whole bytes) text end a = reply_written plan (problem_spelled bytes) text end a.1
due_written (Ok plan) too_long text end a = along end status.Text a.2 tt
due_written (Err fault) nothing_read text end a = along end status.Words a.1 tt
due_written (Err fault) (whole bytes) text end a = absurd a
due_written (Err fault) too_long text end a = absurd a

wrote : (plan : Result Plan WordFault) (a b c d : Seen) (end : Status) → IsWritten end → Writes plan a b c d end → Ends plan a b c d end
wrote plan a b c d status.Done w h = h
wrote plan a b c d status.Words w h = h
wrote plan a b c d status.Partial w h = h
wrote plan a b c d status.Text w h = h
wrote plan a b c d status.Source w h = absurd w
wrote plan a b c d status.Sink w h = absurd w
wrote plan a b c d status.Memory w h = absurd w

-- A run whose text was due ends as it should, whether the sink took it or not.
pub finished : (plan : Result Plan WordFault) (a b c d : Seen) (text : List ℕ) (end result : Status) → Settles plan a b text end → Finishes text end c d result
    → Ends plan a b c d result
finished plan a b c d text end result s (inl f) =
    subst (λ (x : Status). Ends plan a b c d x) (sym f.0)
    (wrote plan a b c d end (due_written plan s.got text end s.due) (record { text = text; settles = s; written = f.1; calm = f.2 }))
finished plan a b c d text end result s (inr f) =
    subst (λ (x : Status). Ends plan a b c d x) (sym f.0) (record { text = text; end = end; settles = s; written = f.1; rose = f.2 })

-- The words were refused.
pub refused : (plan : Result Plan WordFault) (fault : WordFault) (a c d : Seen) (text : List ℕ) (result : Status) → plan ≡ Err fault
    → text ≡ word_fault_text fault → Finishes text status.Words c d result → Ends plan a a c d result
refused plan fault a c d text result e t f =
    subst (λ (p : Result Plan WordFault). Ends p a a c d result) (sym e)
    (finished (Err fault) a a c d text status.Words result (record { got = nothing_read; taken = Keeps-refl a.bytes; due = (t, refl); calm = refl }) f)

took_some : (got : Got) (a b : Seen) → Took got a b → TookSome a b
took_some nothing_read a b t = ([], omega arith, Consumes-kept a.bytes a.bytes b.bytes [] (Consumes-nil a.bytes) t)
took_some (whole read) a b t = (read, omega (arith, t.0), t.1)
took_some too_long a b t = (t.0, omega (arith, t.1), t.2)

-- what is made as one answer, where that is another
pub makes_more : {P Q : List ℕ → Status → Type 0} (r : Result Reply Halt) → ((text : List ℕ) (end : Status) → P text end → Q text end) → Makes r P → Makes r Q
makes_more (Ok reply) more m = more reply.text reply.status m
makes_more (Err halt.Memory) more m = tt
makes_more (Err halt.Source) more m = absurd m

-- what the bytes that were read spell is what is answered
pub makes_spelled : (plan : Plan) (bytes : List ℕ) (spelled : Result Problem TextFault) (r : Result Reply Halt) → problem_spelled bytes ≡ spelled
    → Makes r (IsReply plan spelled)
    → Makes r (IsReply plan (problem_spelled bytes))
makes_spelled plan bytes spelled r e m = subst (λ (x : Result Problem TextFault). Makes r (IsReply plan x)) (sym e) m

-- What was read, or that nothing was, is replied to.
pub replied : (plan : Plan) (got : Got) (a b : Seen) (r : Result Reply Halt) → Took got a b → b.faults ≡ a.faults → Makes r (IsDueTo plan got)
    → RepliesTo plan a b r
replied plan got a b (Ok reply) t calm m = record { got = got; taken = t; due = m; calm = calm }
replied plan got a b (Err halt.Memory) t calm m = (took_some got a b t, calm)
replied plan got a b (Err halt.Source) t calm m = absurd m

-- The problem that the command makes by itself is replied to, and the source is as it was.
pub replied_unread : (plan : Plan) (problem : Problem) (a : Seen) (r : Result Reply Halt) → own_problem plan ≡ Some problem → IsProblem problem
    → Makes r (IsAnswer plan problem)
    → RepliesTo plan a a r
replied_unread plan problem a r own valid m =
    replied plan nothing_read a a r (Keeps-refl a.bytes) refl (makes_more r (λ text end answered. (problem, own, valid, answered)) m)

-- A command that makes its problem by itself is not `discover`.
pub own_is_no_discovery : (plan : Plan) (problem : Problem) → own_problem plan ≡ Some problem → plan.command ≡ Discover → ⊥
own_is_no_discovery plan problem own asked = absurd (let none : own_problem plan ≡ None = rw asked refl in let no : None ≡ Some problem = sym none ∙ own in cc)

comes_to_end : (plan : Plan) (a b c d : Seen) (r : Result Reply Halt) (end : Status) → RepliesTo plan a b r → Delivers r c d end → Ends (Ok plan) a b c d end
comes_to_end plan a b c d (Ok reply) end m w = finished (Ok plan) a b c d reply.text reply.status end m w
comes_to_end plan a b c d (Err halt.Source) end m w =
    subst (λ (x : Status). Ends (Ok plan) a b c d x) (sym w.0)
    (subst (λ (x : Seen). Ends (Ok plan) a b c x status.Source) (sym w.1)
    (record { reads = m.0; taken = m.1; rose = m.2; written = Keeps-refl c.bytes; calm = refl }))
comes_to_end plan a b c d (Err halt.Memory) end m w =
    subst (λ (x : Status). Ends (Ok plan) a b c d x) (sym w.0)
    (subst (λ (x : Seen). Ends (Ok plan) a b c x status.Memory) (sym w.1)
    (record { planned = refl; taken = m.0; written = Keeps-refl c.bytes; source_calm = m.1; sink_calm = refl }))

-- A run whose reply was made and written, or was not made, ends as it should.
pub delivered : (asked : Result Plan WordFault) (plan : Plan) (a b c d : Seen) (r : Result Reply Halt) (end : Status) → Ok plan ≡ asked → RepliesTo plan a b r
    → Delivers r c d end
    → Ends asked a b c d end
delivered asked plan a b c d r end e m w = subst (λ (x : Result Plan WordFault). Ends x a b c d end) e (comes_to_end plan a b c d r end m w)

-- The history was put after a list.
pub followed : (plan : Plan) (problem : Problem) (reply : Reply) (h : List Event) (r : Result Reply Halt) → plan.history ≡ true
    → IsThe (list_answer problem (entries_within (limits_of plan) problem)) reply.text reply.status
    → IsComplete node_of (root_within (limits_of plan) problem) plan.workers h
    → Makes r (λ text end. (text ≡ reply.text ++ history_text h) × (end ≡ reply.status))
    → Makes r (IsWhole plan.history plan problem (list_answer problem (entries_within (limits_of plan) problem)))
followed plan problem reply h (Ok made) asked list complete m =
    rw asked ((h, complete, m.0 ∙ ap (λ (text : List ℕ). text ++ history_text h) list.0), m.1 ∙ list.1)
followed plan problem reply h (Err halt.Memory) asked list complete m = tt
followed plan problem reply h (Err halt.Source) asked list complete m = absurd m

-- what was found of a problem, by its parts
pub is_found_by : {E : Type 0} (plan : Plan) (problem : Problem) (r : Result Solution E)
    → IfOk r (λ found. found.entries ≡ entries_within (limits_of plan) problem)
    → IfOk r (λ found. IsComplete node_of (root_within (limits_of plan) problem) plan.workers found.history)
    → IfOk r (λ found. AllByRecursion (IsEntry problem.ring) found.entries)
    → IfOk r (IsFoundBy plan problem)
is_found_by plan problem (Ok found) list history of_ring = record { list = list; history = history; of_ring = of_ring }
is_found_by plan problem (Err short) list history of_ring = tt

-- The lists were made of the two problems that are made of the thesis.
pub discovered : (limits : Limits) (problem refutation extension : Problem) (thesis : Option (List Term)) (r : Result Reply Halt)
    → option_map (refuted problem) thesis ≡ Some refutation → option_map (extended problem) thesis ≡ Some extension
    → Makes r (IsThe (pair_answer limits refutation extension))
    → Makes r (IsThe (discovered_answer limits problem thesis))
discovered limits problem refutation extension None r first second m = absurd cc
discovered limits problem refutation extension (Some thesis) r first second m =
    let refuting : refuted problem thesis ≡ refutation = cc in
    let extending : extended problem thesis ≡ extension = cc in
    subst (λ (first : Problem). Makes r (IsThe (pair_answer limits first (extended problem thesis)))) (sym refuting)
    (subst (λ (second : Problem). Makes r (IsThe (pair_answer limits refutation second))) (sym extending) m)

-- what was printed of two lists, which are those of the two problems
pub paired : (limits : Limits) (refutation extension : Problem) (refuting extending : List Entry) (old text : List ℕ) (end : Status)
    → refuting ≡ entries_within limits refutation → extending ≡ entries_within limits extension → old ≡ []
    → text ≡ old ++ discovered_text refutation refuting extension extending
    → end ≡ status_of (list_any is_refused refuting || list_any is_refused extending)
    → IsThe (pair_answer limits refutation extension) text end
paired limits refutation extension refuting extending old text end first second none printed marked =
    let all = entries_within limits refutation in (
      printed ∙ ap (λ (xs : List ℕ). xs ++ discovered_text refutation refuting extension extending) none
          ∙ ap (λ (xs : List Entry). discovered_text refutation xs extension extending) first
          ∙ ap (λ (xs : List Entry). discovered_text refutation all extension xs) second,
      marked ∙ ap (λ (xs : List Entry). status_of (list_any is_refused xs || list_any is_refused extending)) first
          ∙ ap (λ (xs : List Entry). status_of (list_any is_refused all || list_any is_refused xs)) second,
    )
