use Rattle.std.proofs.Common.{◌≡◌, length}
use Rattle.std.specs.List.{AllByRecursion}
use Rattle.cgs_problem.specs.Sums.{product}
use Rattle.cgs_text.specs.Scopes.{reader_in, IsProduct}
use Rattle.cgs_text.proofs.TermLemmas.{with_front, start}
use Rattle.cgs_text.proofs.polynomial.products.Given as goal

abbrev pub invariant-loop-product : goal.invariant-loop-product
invariant-loop-product l = record {
  terms : AllByRecursion (IsProduct (reader_in l.scope)) l.terms;
  in_hand : IsProduct (reader_in l.scope) l.product;
  so_far : with_front l.terms (product (reader_in l.scope) l.product l.rest) ≡ product (reader_in l.scope) (start (reader_in l.scope) l.fn.c) l.fn.line;
}

abbrev pub decreases-loop-product : goal.decreases-loop-product
decreases-loop-product l = length l.rest
