use Rattle.cgs_algebra.proofs.SameIdealLemmas.{same_ideal_bases}
use Rattle.cgs_algebra.proofs.laws.same_ideal_shares_bases.Goals as goal

pub returns : goal.returns
returns c = same_ideal_bases
