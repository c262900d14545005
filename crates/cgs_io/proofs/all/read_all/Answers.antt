use Rattle.std.proofs.Common.{◌++◌, ◌≤◌, ◌+◌, ℕ, length, take, arith}
use Rattle.std.proofs.lemmas.List.{length-append, length-take}
use Rattle.std.proofs.KnownBytes.{Consumes-trans}
use Rattle.cgs_io.proofs.all.read_all.Goals as goal

-- what was read before and the last piece
pub returns-then-is_err-clause-bytes : goal.returns-then-is_err-clause-bytes
returns-then-is_err-clause-bytes g c =
    let seen = g.S.Source.seen in
    let before = c.loop-buffer.bytes.items in
    let piece = take c.in-Ok.count c.read.new.into in
    let within : length (before ++ piece) ≤ c.args.limit + 1 =
    omega (
      arith,
      length-append before piece,
      length-take c.in-Ok.count c.read.new.into,
      c.in-Ok.ensures.count,
      c.read.auto.into,
      c.min-want.array_long,
      length-take {A = ℕ},
    ) in (
      before ++ piece,
      within,
      Consumes-trans (seen c.args.source.now).bytes (seen c.loop-buffer.source).bytes
          (seen c.read.new.self).bytes before piece c.loop-buffer.invariant.bytes c.in-Ok.ensures.bytes.0,
    )
