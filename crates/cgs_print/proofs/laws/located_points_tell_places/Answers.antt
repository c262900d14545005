use Rattle.cgs_print.proofs.ToldPlaceLemmas.{places_are_told}
use Rattle.cgs_print.proofs.laws.located_points_tell_places.Goals as goal

pub returns : goal.returns
returns c = places_are_told
