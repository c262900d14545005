use Rattle.std.proofs.Common.{List, ℕ, subst}
use Rattle.cgs_canonical.specs.Printing.{Prints}
use Rattle.cgs_canonical.proofs.FirstNamesLemmas.{polynomial_taken}
use Rattle.cgs_canonical.proofs.polynomial.poly_text.Goals as goal

pub returns : goal.returns
returns c =
    let ring = c.args.ring.now in
    let names = c.args.names.now in
    let f = c.args.f.now in
    let same = polynomial_taken ring names f c.requires.poly.canonical in
    subst (λ (text : List ℕ). Prints c.polynomial_text.result c.args.out.now c.polynomial_text.new.out text) same
    (rw (← c.as_slice.ensures, ← c.places.ensures) c.polynomial_text.ensures)
