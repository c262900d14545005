use Rattle.std.proofs.Common.{None, ◌∙◌, sym, subst}
use Rattle.cgs_divide.specs.Tops.{AreTops}
use Rattle.cgs_divide.proofs.TopLemmas.{tops_unknown, resized}
use Rattle.cgs_divide.proofs.tops.Tops.unknown.Goals as goal

pub returns : goal.returns
returns c =
    subst (AreTops c.args.divisors.now)
    (sym (c.in_ok-resize.ensures.items ∙ rw (c.new-degrees.ensures.items, c.new-degrees.ensures.len, c.len.ensures) (resized None _)))
    (tops_unknown c.args.divisors.now)
