use Rattle.std.proofs.Common.{◌+◌, arith, refl}
use Rattle.cgs_terms.specs.Flat.{terms_of}
use Rattle.cgs_terms.proofs.FlatLemmas.{terms_length, part_fits, term_read}
use Rattle.cgs_terms.proofs.flat.term_at.Goals as goal

pub part-requires-clause-within : goal.part-requires-clause-within
part-requires-clause-within c =
    let n = terms_length c.args.places c.args.coefficients.now c.args.exponents.now in
    part_fits c.args.places (c.args.i + 1) c.args.coefficients.now c.args.exponents.now
    (terms_of c.args.places c.args.coefficients.now c.args.exponents.now) refl c.requires.flat (omega (arith, n, c.requires.within))

pub returns : goal.returns
returns c =
    let n = terms_length c.args.places c.args.coefficients.now c.args.exponents.now in
    term_read c.args.places c.args.i c.index-coefficients-i.result c.args.coefficients.now c.args.exponents.now c.part.result.now
    (terms_of c.args.places c.args.coefficients.now c.args.exponents.now) refl (omega (arith, n, c.requires.within)) c.index-coefficients-i.is c.part.ensures
