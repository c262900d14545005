use Rattle.std.proofs.Common.{◌≡◌, Ok, ap, ◌∙◌, sym, arith, subst}
use Rattle.std.proofs.lemmas.Bool.{eqb-true}
use Rattle.cgs_list.specs.Results.{IsFault, Answers}
use Rattle.cgs_problem.specs.declared.problem.Problem.{Problem}
use Rattle.cgs_problem.specs.Lines.{lines_of, without_cr}
use Rattle.cgs_problem.specs.Reading.{taken, problem_spelled}
use Rattle.cgs_text.specs.Refusals.{kind_told, fault_told}
use Rattle.cgs_text.specs.Stages.{meaning}
use Rattle.cgs_text.proofs.ReadingLemmas.{goes_on, is_refused, ends, no_lines}
use Rattle.cgs_text.proofs.read.read_problem.Goals as goal

pub returns-in-Err-clause-spelled : goal.returns-in-Err-clause-spelled
returns-in-Err-clause-spelled c =
    let d = meaning c.loop-rest.progress in
    let line = c.first_line.result.0.now in
    let said = subst (λ bytes. IsFault (kind_told c.in-Err.refused) (taken d bytes)) c.without_cr.ensures.bytes c.in-Err.ensures.said in
    rw c.at_line.ensures
    (is_refused c.loop-rest.number d line c.in-Err.refused (lines_of c.loop-rest.rest.now) (lines_of c.first_line.result.1.now)
    (problem_spelled c.args.bytes.now) c.first_line.ensures.line said c.loop-rest.invariant.so_far)

pub loop-rest-preserved : goal.loop-rest-preserved
loop-rest-preserved c =
    let d = meaning c.loop-rest.progress in
    let next = meaning c.in-Ok.next in
    let line = c.first_line.result.0.now in
    let said : taken d (without_cr line) ≡ Ok next = sym (ap (taken d) c.without_cr.ensures.bytes) ∙ c.in-Ok.ensures.said in
    record {
      progress = c.in-Ok.ensures.progress;
      few = omega (arith, c.first_line.ensures.shorter, c.loop-rest.invariant.few);
      so_far = goes_on c.loop-rest.number d next line (lines_of c.loop-rest.rest.now) (lines_of c.first_line.result.1.now)
          (problem_spelled c.args.bytes.now) c.first_line.ensures.line said c.loop-rest.invariant.so_far;
    }

pub returns-clause-spelled : goal.returns-clause-spelled
returns-clause-spelled c =
    let d = meaning c.loop-rest.progress in
    let none = eqb-true _ _ (sym c.is_empty.ensures ∙ c.loop-rest-test.false) in
    let done = ends c.loop-rest.number d (lines_of c.loop-rest.rest.now) (problem_spelled c.args.bytes.now)
    (no_lines c.loop-rest.rest.now none) c.loop-rest.invariant.so_far in
    subst (Answers (λ (problem : Problem). problem) fault_told c.finish.result) done c.finish.ensures.read
