use Rattle.cgs_report.specs.Box.{standard_monomials}
use Rattle.cgs_report.proofs.BoxLemmas.{finite_box, finite_powers}
use Rattle.cgs_report.proofs.laws.finite_by_powers.Goals as goal

pub returns : goal.returns
returns c n L h = (λ p. let b = finite_box n L h p in record { monomials = standard_monomials n L; all = b.all }, finite_powers n L h)
