use Rattle.std.proofs.Common.{◌++◌, ◌+◌, ◌<◌, codes, drop, length, arith}
use Rattle.cgs_poly.specs.Polynomial.{Term, term}
use Rattle.cgs_canonical.specs.Printing.{term_text}
use Rattle.cgs_canonical.proofs.PrintLemmas.{leaves_rest, front_kept, front_of_piece, at_exit}
use Rattle.cgs_canonical.proofs.PrintedPolynomialLemmas.{term_places, following_terms, polynomial_left, terms_left}
use Rattle.cgs_canonical.proofs.polynomial.polynomial_text.Goals as goal

pub term_text-requires-clause-places : goal.term_text-requires-clause-places
term_text-requires-clause-places c = term_places c.args.ring.now c.args.f.now 0 _ c.requires.poly.canonical c.term.ensures

pub returns-in_err-term_text : goal.returns-in_err-term_text
returns-in_err-term_text c =
    let first : Term = term c.term.result.coefficient c.term.result.exponents.now in
    at_exit _ _ _ _ c.from_residual.ensures.0
    (front_of_piece (term_text c.args.ring.now c.args.names.now first) (following_terms c.args.ring.now c.args.names.now (drop 1 c.args.f.now))
    (polynomial_left c.args.ring.now c.args.names.now c.args.f.now first _ c.term.ensures) c.in_err-term_text.ensures)

pub returns-in_err-extend_from_slice : goal.returns-in_err-extend_from_slice
returns-in_err-extend_from_slice c =
    at_exit _ _ _ _ c.from_residual-in_err-extend_from_slice.ensures.0 (front_kept c.loop-i.invariant c.in_err-extend_from_slice.ensures.err)

pub term_text-requires-in-loop-i-clause-places : goal.term_text-requires-in-loop-i-clause-places
term_text-requires-in-loop-i-clause-places c = term_places c.args.ring.now c.args.f.now c.loop-i.i _ c.requires.poly.canonical c.term-in-loop-i.ensures

pub returns-in_err-term_text-2 : goal.returns-in_err-term_text-2
returns-in_err-term_text-2 c =
    let next : Term = term c.term-in-loop-i.result.coefficient c.term-in-loop-i.result.exponents.now in
    let rest = following_terms c.args.ring.now c.args.names.now (drop (c.loop-i.i + 1) c.args.f.now) in
    let inside : c.loop-i.i < length c.args.f.now = omega arith in
    at_exit _ _ _ _ c.from_residual-in_err-term_text-2.ensures.0
    (front_of_piece (term_text c.args.ring.now c.args.names.now next) rest
    (leaves_rest (codes "+") (term_text c.args.ring.now c.args.names.now next ++ rest)
    (terms_left c.args.ring.now c.args.names.now c.args.f.now c.loop-i.i next _ _ _ inside c.term-in-loop-i.ensures c.loop-i.invariant)
    c.in_ok-extend_from_slice.ensures.ok)
    c.in_err-term_text-2.ensures)

pub loop-i-preserved : goal.loop-i-preserved
loop-i-preserved c =
    let next : Term = term c.term-in-loop-i.result.coefficient c.term-in-loop-i.result.exponents.now in
    let rest = following_terms c.args.ring.now c.args.names.now (drop (c.loop-i.i + 1) c.args.f.now) in
    let inside : c.loop-i.i < length c.args.f.now = omega arith in
    leaves_rest (term_text c.args.ring.now c.args.names.now next) rest
    (leaves_rest (codes "+") (term_text c.args.ring.now c.args.names.now next ++ rest)
    (terms_left c.args.ring.now c.args.names.now c.args.f.now c.loop-i.i next _ _ _ inside c.term-in-loop-i.ensures c.loop-i.invariant)
    c.in_ok-extend_from_slice.ensures.ok)
    c.in_ok-term_text-2.ensures
