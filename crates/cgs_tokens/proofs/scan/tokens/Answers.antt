use Rattle.std.proofs.Common.{sym, ◌∙◌, arith}
use Rattle.std.proofs.lemmas.Result.{err_from_is_err_and}
use Rattle.cgs_tokens.specs.Tokens.{tokens_of}
use Rattle.cgs_tokens.proofs.ScanLemmas.{blank, read, offends, is_done}
use Rattle.cgs_tokens.proofs.scan.tokens.Goals as goal

pub returns-in_err-token : goal.returns-in_err-token
returns-in_err-token c =
    let p = err_from_is_err_and c.from_residual.result c.from_residual.ensures.1 in
    rw (p.1, p.2) (offends c.args.format c.loop-at.list c.args.line.now c.loop-at.at c.in_err-token.field-0.0
    (tokens_of c.args.format c.args.line.now) c.loop-at-test.true
    (sym c.is_blank.ensures ∙ c.if-is_blank.false) c.in_err-token.ensures.token c.loop-at.invariant.so_far)

pub loop-at-preserved-then-is_blank : goal.loop-at-preserved-then-is_blank
loop-at-preserved-then-is_blank c = record {
  within = omega arith;
  so_far = blank c.args.format c.loop-at.list c.args.line.now c.loop-at.at (tokens_of c.args.format c.args.line.now) c.loop-at-test.true
      (sym c.is_blank.ensures ∙ c.if-is_blank.true) c.loop-at.invariant.so_far;
}

pub loop-at-preserved : goal.loop-at-preserved
loop-at-preserved c =
    let t = c.in_ok-token.token in
    record {
      within = c.in_ok-token.ensures.within.1;
      so_far = rw c.in_ok-push.ensures.ok (read c.args.format c.loop-at.list c.args.line.now c.loop-at.at t
          (tokens_of c.args.format c.args.line.now) c.loop-at-test.true
          (sym c.is_blank.ensures ∙ c.if-is_blank.false) c.in_ok-token.ensures.token c.in_ok-token.ensures.within.0 c.loop-at.invariant.so_far);
    }

pub returns : goal.returns
returns c = is_done c.args.format c.loop-at.list c.args.line.now c.loop-at.at
    (tokens_of c.args.format c.args.line.now) c.loop-at-test.false c.loop-at.invariant.so_far
