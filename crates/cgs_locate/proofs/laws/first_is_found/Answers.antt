use Rattle.cgs_locate.proofs.LocateLemmas.{found_is_first, none_has_point}
use Rattle.cgs_locate.proofs.laws.first_is_found.Goals as goal

pub returns : goal.returns
returns c = record { found = found_is_first; none = none_has_point }
