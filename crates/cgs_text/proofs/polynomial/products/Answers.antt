use Rattle.std.proofs.Common.{◌≡◌, [], ◌∷◌, ◌++◌, replicate, ap, ◌∙◌}
use Rattle.std.proofs.lemmas.Result.{err_from_is_err_and}
use Rattle.cgs_poly.specs.Polynomial.{term}
use Rattle.cgs_tokens.specs.declared.lexeme.Lexeme.{Lexeme as Read}
use Rattle.cgs_tokens.specs.Lexemes.{times, seen}
use Rattle.cgs_problem.specs.Sums.{product}
use Rattle.cgs_text.specs.Scopes.{reader_in}
use Rattle.cgs_text.proofs.TermLemmas.{start, none_before, refused_there, follows, goes_on, begins, cannot_follow, ends, is_start, signed_below}
use Rattle.cgs_text.proofs.TermLemmas.{still_products, as_long}
use Rattle.cgs_text.proofs.polynomial.products.Goals as goal

pub loop-product-init : goal.loop-product-init
loop-product-init c =
    let reader = reader_in c.args.scope.now in
    rw (c.new-terms.ensures, c.in_ok-product.ensures) (record {
      terms = tt;
      in_hand = is_start reader c.args.c c.requires.reader c.requires.below;
      so_far = none_before (product reader (start reader c.args.c) c.args.line);
    })

pub returns-in_err-after-clause-said : goal.returns-in_err-after-clause-said
returns-in_err-after-clause-said c =
    let reader = reader_in c.args.scope.now in
    let total = product reader (start reader c.args.c) c.args.line in
    let p = err_from_is_err_and c.from_residual-in_err-after.result c.from_residual-in_err-after.ensures.1 in
    rw (p.1, p.2)
    (refused_there reader c.loop-product.terms c.loop-product.product c.loop-product.rest total c.in_err-after.field-0.0
    c.in_err-after.ensures.said c.loop-product.invariant.so_far)

pub push-requires : goal.push-requires
push-requires c =
    let reader = reader_in c.args.scope.now in
    let next = c.times_factor.new.product in
    record {
      places = rw c.exponents.ensures (as_long reader c.loop-product.terms next c.loop-product.invariant.terms c.in_ok-after.ensures.product);
    }

pub returns-in_default-clause-said : goal.returns-in_default-clause-said
returns-in_default-clause-said c =
    let reader = reader_in c.args.scope.now in
    let total = product reader (start reader c.args.c) c.args.line in
    let front = c.loop-product.terms in
    let next = c.times_factor.new.product in
    let after = c.in_ok-after.after in
    let f = follows reader front c.loop-product.product next c.loop-product.rest after total c.in_ok-after.ensures.said
    c.loop-product.invariant.so_far in
    let pushed : c.push.new.self ≡ front ++ next ∷ [] = rw (c.coefficient.ensures, c.exponents.ensures) at c.in_ok-push.ensures.ok in
    rw pushed (ends reader front next after total f c.in_default.ensures)

pub returns-in_default-signed_one : goal.returns-in_default-signed_one
returns-in_default-signed_one c =
    let reader = reader_in c.args.scope.now in
    let total = product reader (start reader c.args.c) c.args.line in
    let front = c.loop-product.terms in
    let next = c.times_factor.new.product in
    let after = c.in_ok-after.after in
    let f = follows reader front c.loop-product.product next c.loop-product.rest after total c.in_ok-after.ensures.said
    c.loop-product.invariant.so_far in
    record {
      said = cannot_follow reader front next after total f c.in-Some.sign c.in-Some.others c.in-Some.ensures
          c.in_default-sign.not-Times c.in_default-signed_one.ensures;
      terms = tt;
    }

pub push-requires-in_default-sign : goal.push-requires-in_default-sign
push-requires-in_default-sign c =
    let reader = reader_in c.args.scope.now in
    let next = c.times_factor.new.product in
    record {
      places = rw c.exponents-in_default-sign.ensures
          (as_long reader c.loop-product.terms next c.loop-product.invariant.terms c.in_ok-after.ensures.product);
    }

pub loop-product-preserved-in-Times : goal.loop-product-preserved-in-Times
loop-product-preserved-in-Times c =
    let reader = reader_in c.args.scope.now in
    let total = product reader (start reader c.args.c) c.args.line in
    let front = c.loop-product.terms in
    let next = c.times_factor.new.product in
    let after = c.in_ok-after.after in
    let others = c.in-Some.others in
    let f = follows reader front c.loop-product.product next c.loop-product.rest after total c.in_ok-after.ensures.said
    c.loop-product.invariant.so_far in
    let cells : after ≡ times ∷ others = c.in-Some.ensures ∙ ap (λ (sign : Read). seen sign ∷ others) c.in-Times.is in
    record {
      terms = c.loop-product.invariant.terms;
      in_hand = c.in_ok-after.ensures.product;
      so_far = goes_on reader front next after total f others cells;
    }

pub loop-product-preserved : goal.loop-product-preserved
loop-product-preserved c =
    let reader = reader_in c.args.scope.now in
    let total = product reader (start reader c.args.c) c.args.line in
    let front = c.loop-product.terms in
    let next = c.times_factor.new.product in
    let after = c.in_ok-after.after in
    let sign = seen c.in-Some.sign in
    let n = c.in-Some-signed_one.next in
    let is = c.in_ok-after.ensures.product in
    let f = follows reader front c.loop-product.product next c.loop-product.rest after total c.in_ok-after.ensures.said
    c.loop-product.invariant.so_far in
    let pushed : c.push-in_default-sign.new.self ≡ front ++ next ∷ [] =
    rw (c.coefficient-in_default-sign.ensures, c.exponents-in_default-sign.ensures) at c.in_ok-push-in_default-sign.ensures.ok in
    let again : c.restart.new.self ≡ start reader n = c.restart.ensures ∙ ap (λ k. term n (replicate k 0)) is.places in
    rw (pushed, again) (record {
      terms = still_products reader front next c.loop-product.invariant.terms is;
      in_hand = is_start reader n c.requires.reader
          (signed_below reader.ring n sign c.requires.reader.ring c.in-Some-signed_one.ensures);
      so_far = begins reader front next after total f sign n c.in-Some.others c.in-Some.ensures c.in-Some-signed_one.ensures;
    })
