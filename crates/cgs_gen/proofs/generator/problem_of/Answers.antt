use Rattle.std.proofs.Common.{◌+◌, ◌%◌, ◌++◌, ◌∙◌, ap, refl}
use Rattle.cgs_gen.specs.Generator.{parameter_names}
use Rattle.cgs_gen.proofs.GeneratorLemmas.{valid_parts, links_few}
use Rattle.cgs_gen.proofs.generator.problem_of.Goals as goal

pub returns-clause-valid : goal.returns-clause-valid
returns-clause-valid c =
    valid_parts _ (2 + c.args.k % 3) (links_few c.args.k) c.ring-ring.ensures.valid c.ring-ring.ensures.ring
    (c.in_ok-with_parameter_names.ensures ∙ ap (λ names. names ++ parameter_names (2 + c.args.k % 3)) c.in_ok-variables.ensures) c.new.ensures c.new-2.ensures
    c.in_ok-polys.ensures.polys refl c.new-3.ensures
