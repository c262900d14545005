use Rattle.cgs_words.proofs.NumberLemmas.{is_text, parsed}
use Rattle.cgs_words.proofs.number.parse.Goals as goal

pub returns-in-Ok : goal.returns-in-Ok
returns-in-Ok c = rw c.ok.ensures.value (parsed c.args.digits.now c.in-Ok.text.now c.parse.result c.requires c.in-Ok.ensures.cases.0 c.parse.ensures.value.0)

pub returns-in-Err : goal.returns-in-Err
returns-in-Err c = absurd (c.in-Err.ensures.cases.0 (is_text c.args.digits.now c.requires))
