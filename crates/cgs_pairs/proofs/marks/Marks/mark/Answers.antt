use Rattle.std.proofs.Common.{◌/◌, ◌<◌, length}
use Rattle.cgs_pairs.proofs.TableLemmas.{mark_set}
use Rattle.cgs_pairs.proofs.marks.Marks.mark.Goals as goal

pub returns-clause-marked : goal.returns-clause-marked
returns-clause-marked c =
    let within : c.args.place / 64 < length c.self.inside.words.items = rw c.self.view_is c.requires in
    rw (← c.self.view_is) (mark_set c.self.inside.words.items c.args.place c.index_mut.result.now within c.index_mut.ensures.value)
