use Rattle.std.proofs.Common.{sym, ◌∙◌}
use Rattle.cgs_report.specs.declared.standard.Standard.TheVariants.{NotFinite, Many, Count}
use Rattle.cgs_report.specs.Standard.{leads_x}
use Rattle.cgs_report.proofs.LeadLemmas.{leads_places}
use Rattle.cgs_report.proofs.AnswerLemmas.{told, is_not_finite, is_many, is_count}
use Rattle.cgs_report.proofs.standard.standard_monomials.Goals as goal

pub returns-then-not-have_powers-clause-tells : goal.returns-then-not-have_powers-clause-tells
returns-then-not-have_powers-clause-tells c =
    told c.args.ring.now.variables (leads_x c.args.ring.now c.args.basis.now) (leads_places c.args.ring.now c.args.basis.now c.requires.polys)
    NotFinite
    (is_not_finite c.args.ring.now.variables (leads_x c.args.ring.now c.args.basis.now) (leads_places c.args.ring.now c.args.basis.now c.requires.polys)
    (sym c.have_powers.ensures ∙ c.if-not-have_powers.true))

pub returns-then-count-gt-MOST_COUNTED-clause-standard : goal.returns-then-count-gt-MOST_COUNTED-clause-standard
returns-then-count-gt-MOST_COUNTED-clause-standard c =
    is_many c.args.ring.now.variables (leads_x c.args.ring.now c.args.basis.now) (leads_places c.args.ring.now c.args.basis.now c.requires.polys)
    (sym c.have_powers.ensures ∙ c.if-not-have_powers.false) c.count_from-count.result c.count_from-count.ensures c.if-count-gt-MOST_COUNTED.true

pub returns-then-count-gt-MOST_COUNTED-clause-tells : goal.returns-then-count-gt-MOST_COUNTED-clause-tells
returns-then-count-gt-MOST_COUNTED-clause-tells c =
    told c.args.ring.now.variables (leads_x c.args.ring.now c.args.basis.now) (leads_places c.args.ring.now c.args.basis.now c.requires.polys)
    Many (returns-then-count-gt-MOST_COUNTED-clause-standard c)

pub returns-clause-standard : goal.returns-clause-standard
returns-clause-standard c =
    is_count c.args.ring.now.variables (leads_x c.args.ring.now c.args.basis.now) (leads_places c.args.ring.now c.args.basis.now c.requires.polys)
    (sym c.have_powers.ensures ∙ c.if-not-have_powers.false) c.count_from-count.result c.count_from-count.ensures c.if-count-gt-MOST_COUNTED.false

pub returns-clause-tells : goal.returns-clause-tells
returns-clause-tells c =
    told c.args.ring.now.variables (leads_x c.args.ring.now c.args.basis.now) (leads_places c.args.ring.now c.args.basis.now c.requires.polys)
    (Count c.count_from-count.result) (returns-clause-standard c)
