use Rattle.std.proofs.Common.{sym, subst}
use Rattle.cgs_poly.specs.Polynomial.{IsOfRing}
use Rattle.cgs_algebra.specs.Combination.{IsMember}
use Rattle.cgs_algebra.proofs.PlaceLemmas.{place_of_member}
use Rattle.cgs_algebra.proofs.MemberLemmas.{generator_member}
use Rattle.cgs_algebra.proofs.laws.generator_is_member.Goals as goal

pub returns : goal.returns
returns c ring F f pos inside h =
    let i = place_of_member F f inside in
    subst (IsMember ring F) i.2 (generator_member ring F pos i.0 i.1 (subst (IsOfRing ring) (sym i.2) h))
