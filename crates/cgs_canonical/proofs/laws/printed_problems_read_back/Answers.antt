use Rattle.cgs_canonical.proofs.RoundTripLemmas.{reads_back}
use Rattle.cgs_canonical.proofs.laws.printed_problems_read_back.Goals as goal

pub returns : goal.returns
returns c = λ problem bytes e. reads_back bytes problem e
