use Rattle.std.proofs.Common.{◌≡◌, ◌++◌, length, drop, ap, ◌∙◌, arith}
use Rattle.std.proofs.lemmas.Simd.{put_chunk_is}
use Rattle.cgs_exps.proofs.lanes.store.Goals as goal

pub returns : goal.returns
returns c =
    let l : length c.args.a ≡ 16 = omega arith in
    put_chunk_is 0 c.args.out.now c.args.a (omega arith) ∙ ap (λ n. c.args.a ++ drop n c.args.out.now) l
