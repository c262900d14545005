use Rattle.cgs_locate.proofs.LocateLemmas.{basis_serves}
use Rattle.cgs_locate.proofs.laws.basis_serves.Goals as goal

pub returns : goal.returns
returns c = basis_serves
