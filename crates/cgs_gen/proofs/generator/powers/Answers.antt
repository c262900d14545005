use Rattle.std.proofs.Common.{◌∙◌, sym, subst, arith, rules}
use Rattle.cgs_poly.specs.Polynomial.{IsPoly}
use Rattle.cgs_gen.proofs.GeneratorLemmas.{term_is, term_poly}
use Rattle.cgs_gen.proofs.generator.powers.Goals as goal

pub returns-clause-term : goal.returns-clause-term
returns-clause-term c =
    let made = rw c.zero-f.ensures at c.in_ok-push.ensures.ok in
    made
    ∙ term_is c.args.links c.args.c c.args.power.0 c.args.power.1 c.args.parameter c.of_u64.result c.requires.below (omega (arith, c.requires.few))
    c.requires.place c.requires.parameter (search rules)

pub returns-clause-poly : goal.returns-clause-poly
returns-clause-poly c =
    subst (IsPoly c.args.ring.now) (sym (returns-clause-term c))
    (term_poly c.args.ring.now c.args.links c.args.c c.args.power.0 c.args.power.1 c.args.parameter c.requires.ring c.requires.some c.requires.below
    c.requires.low)
