use Rattle.std.proofs.Common.{◌≡◌, ◌≤◌, ◌-◌, length, take, drop, arith}
use Rattle.std.proofs.lemmas.List.{length-drop}
use Rattle.std.proofs.lemmas.Grind.{common_steps}
use Rattle.cgs_io.proofs.MovingLemmas.{given_front}
use Rattle.cgs_io.proofs.rest.Rest.give.Goals as goal

pub returns-clause-bytes : goal.returns-clause-bytes
returns-clause-bytes c =
    let bytes = c.self.inside.bytes.items in
    let at = c.self.inside.at in
    let count = c.min-count.result in
    let front = c.copy_from_slice.new.self in
    let copied : front ≡ take count (drop at bytes) = grind (arith, common_steps) in
    let within : count ≤ length bytes - at = omega (arith, length-drop at bytes) in
    rw (← c.self.view_is) (given_front bytes front (drop count c.args.into.now) at count copied within)
