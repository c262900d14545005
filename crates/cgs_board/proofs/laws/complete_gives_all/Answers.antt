use Rattle.cgs_board.proofs.Gathering as gathering
use Rattle.cgs_board.proofs.laws.complete_gives_all.Goals as goal

pub returns : goal.returns
returns g c = gathering.complete_gives_all g.J.Job.node g.J.Job.height g.met.J.Job.falls
