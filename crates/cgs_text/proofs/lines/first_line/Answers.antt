use Rattle.std.proofs.Common.{sym, ◌+◌, length}
use Rattle.std.proofs.lemmas.List.{take_rest}
use Rattle.cgs_text.proofs.LineLemmas.{cut_at, not_cut}
use Rattle.cgs_text.proofs.lines.first_line.Goals as goal

pub returns-in-Some-clause-line : goal.returns-in-Some-clause-line
returns-in-Some-clause-line c = rw (take_rest c.args.bytes.now (c.in-Some.at + 1)) (cut_at c.args.bytes.now c.in-Some.at (sym c.in-Some.ensures))

pub returns-in-None-clause-line : goal.returns-in-None-clause-line
returns-in-None-clause-line c = not_cut c.args.bytes.now _ c.requires (take_rest c.args.bytes.now (length c.args.bytes.now)) (sym c.in-None.ensures)
