-- What is accepted is answered.
use Rattle.std.proofs.Common.{◌≡◌, ℕ, ◌≤◌, List, ◌++◌, length, Option, Some, None, Result, Ok, refl, sym, subst, ap, ◌∙◌, inl, inr, ◌⊎◌, arith}
use Rattle.std.proofs.lemmas.List.{append-nil, length-append}
use Rattle.std.specs.Io.KnownBytes.{Consumes, IsAtEnd, Appends}
use Rattle.cgs_io.specs.Seen.{Seen}
use Rattle.cgs_problem.specs.declared.problem.Problem.{Problem}
use Rattle.cgs_problem.specs.declared.fault.TextFault.{TextFault}
use Rattle.cgs_problem.specs.Reading.{problem_spelled}
use Rattle.cgs_words.specs.declared.plan.Plan.{Plan}
use Rattle.cgs_words.specs.declared.plan.WordFault.{WordFault}
use Rattle.cgs_program.specs.declared.status.Status.{Status}
use Rattle.cgs_program.specs.declared.status.Status.TheVariants as status
use Rattle.cgs_words.specs.Words.{plan_of}
use Rattle.cgs_program.specs.Due.{Got, nothing_read, whole, too_long, own_problem, IsAnswer, IsReply, IsDueTo, IsDueFor}
use Rattle.cgs_program.specs.Run.{Took, Writes, Ends, Spells, HasProblem, Accepts, Completes}

all_taken : (told now : Option (List ℕ)) (bytes read : List ℕ) → told ≡ Some bytes → Consumes told now read → IsAtEnd now → read ≡ bytes
all_taken None now bytes read e p q = absurd cc
all_taken (Some xs) None bytes read e p q = absurd p
all_taken (Some xs) (Some ys) bytes read e p q =
    let none : read ++ ys ≡ read = ap (λ (zs : List ℕ). read ++ zs) q ∙ append-nil read in
    let same : xs ≡ bytes = cc in
    sym none ∙ sym p ∙ same

taken_within : (told now : Option (List ℕ)) (bytes read : List ℕ) → told ≡ Some bytes → Consumes told now read → length read ≤ length bytes
taken_within None now bytes read e p = absurd cc
taken_within (Some xs) None bytes read e p = absurd p
taken_within (Some xs) (Some ys) bytes read e p =
    let same : xs ≡ bytes = cc in
    omega (arith, ap length p, ap length same, length-append read ys)

-- What was taken of bytes that spell a problem is answered as that problem.
settled : (plan : Plan) (a b : Seen) (problem : Problem) (text : List ℕ) (end : Status) (got : Got) → own_problem plan ≡ None → Spells a problem
    → Took got a b → IsDueTo plan got text end → IsAnswer plan problem text end
settled plan a b problem text end nothing_read r given taken due = absurd (let no : None ≡ Some due.0 = sym r ∙ due.1 in cc)
settled plan a b problem text end (whole read) r given taken due =
    let e : problem_spelled read ≡ Ok problem = ap problem_spelled (all_taken a.bytes b.bytes given.bytes read given.told taken.1 taken.2) ∙ given.spelled in
    subst (λ (x : Result Problem TextFault). IsReply plan x text end) e due.1
settled plan a b problem text end too_long r given taken due =
    absurd (let le = taken_within a.bytes b.bytes given.bytes taken.0 given.told taken.2 in omega (arith, given.fits))

-- What a command makes by itself is answered.
made : (plan : Plan) (problem : Problem) (text : List ℕ) (end : Status) (got : Got) → own_problem plan ≡ Some problem → IsDueTo plan got text end
    → IsAnswer plan problem text end
made plan problem text end nothing_read own due =
    let same : due.0 ≡ problem = (let e : Some due.0 ≡ Some problem = sym due.1 ∙ own in cc) in
    subst (λ x. IsAnswer plan x text end) same due.3
made plan problem text end (whole read) own due = absurd (let no : None ≡ Some problem = sym due.0 ∙ own in cc)
made plan problem text end too_long own due = absurd (let no : None ≡ Some problem = sym due.0 ∙ own in cc)

answered : (plan : Plan) (a b : Seen) (problem : Problem) (text : List ℕ) (end : Status) (got : Got) → HasProblem plan a problem → Took got a b
    → IsDueTo plan got text end → IsAnswer plan problem text end
answered plan a b problem text end got (inl own) taken due = made plan problem text end got own due
answered plan a b problem text end got (inr given) taken due = settled plan a b problem text end got given.0 given.1 taken due

wrote : (p : Plan) (words : List (List ℕ)) (a b c d : Seen) (problem : Problem) (end : Status) → Accepts words a b c d p problem
    → Writes (plan_of words) a b c d end
    → (end ≡ status.Memory) ⊎ ((text : List ℕ) × IsAnswer p problem text end × Appends c.bytes d.bytes text)
wrote p words a b c d problem end acc w =
    let due : IsDueTo p w.settles.got w.text end = subst (λ (q : Result Plan WordFault). IsDueFor q w.settles.got w.text end) acc.planned w.settles.due in
    inr (w.text, answered p a b problem w.text end w.settles.got acc.given w.settles.taken due, w.written)

pub completes : (words : List (List ℕ)) (a b c d : Seen) (end : Status) → Ends (plan_of words) a b c d end → Completes words a b c d end
completes words a b c d status.Source h p problem acc = absurd (acc.source_sound h.rose.1)
completes words a b c d status.Sink h p problem acc = absurd (acc.sink_sound h.rose.1)
completes words a b c d status.Memory h p problem acc = inl refl
completes words a b c d status.Done h p problem acc = wrote p words a b c d problem status.Done acc h
completes words a b c d status.Words h p problem acc = wrote p words a b c d problem status.Words acc h
completes words a b c d status.Partial h p problem acc = wrote p words a b c d problem status.Partial acc h
completes words a b c d status.Text h p problem acc = wrote p words a b c d problem status.Text acc h
