use Rattle.std.proofs.Common.{sym, ◌∙◌}
use Rattle.cgs_poly.specs.Polynomial.{term}
use Rattle.cgs_poly.proofs.PlaceLemmas.{canonical_at}
use Rattle.cgs_divide.proofs.rest.Rest.summed_lead.Goals as goal

pub copy_from_slice-requires : goal.copy_from_slice-requires
copy_from_slice-requires c =
    c.requires.out
    ∙ sym (canonical_at c.args.self.now.sum.ring 0 c.args.self.now.sum.terms
    (term c.in_ok-lead.lead.coefficient.now c.in_ok-lead.lead.exponents.now) c.requires.poly.canonical c.in_ok-lead.ensures.first).places
