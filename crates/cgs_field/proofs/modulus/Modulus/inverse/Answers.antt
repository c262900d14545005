use Rattle.std.proofs.Common.{◌≡◌, ◌*◌, ◌%◌, ◌<◌, arith, ◌∙◌}
use Rattle.cgs_field.proofs.PrimeLemmas.{field_of_prime}
use Rattle.cgs_field.proofs.InverseLemmas.{inverse_is}
use Rattle.cgs_field.proofs.modulus.Modulus.inverse.Goals as goal

pub returns-clause-value : goal.returns-clause-value
returns-clause-value c =
    let below : c.inverse_modulo.result < c.args.self = omega (arith, c.inverse_modulo.ensures.below, c.value.ensures.value) in
    let product : (c.args.a * c.inverse_modulo.result) % c.args.self ≡ 1 = cc in
    c.new.ensures ∙ inverse_is c.args.self c.args.a c.inverse_modulo.result
    (field_of_prime c.args.self c.value.ensures.prime) c.requires.positive c.requires.below below product
