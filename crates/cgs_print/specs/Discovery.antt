-- The printed text of what is discovered of a thesis.
use Rattle.std.specs.Prelude.{ℕ, List, ◌++◌, codes}
use Rattle.cgs_entry.specs.declared.entry.Entry.{Entry}
use Rattle.cgs_problem.specs.declared.problem.Problem.{Problem}
use Rattle.cgs_print.specs.Printing.{list_text}

-- a list under a line of its own
abbrev pub headed_text : List ℕ → Problem → List Entry → List ℕ
headed_text head problem entries = head ++ list_text problem entries

-- the list of the refutation, and that of the problem with its thesis
abbrev pub discovered_text : Problem → List Entry → Problem → List Entry → List ℕ
discovered_text refutation refuted extension extended =
    headed_text (codes "refutation\n") refutation refuted ++ headed_text (codes "with thesis\n") extension extended
