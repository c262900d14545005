-- The printed summary of a list of entries.
use Rattle.std.specs.Prelude.{ℕ, ◌-◌, ◌%◌, List, ◌++◌, length, count_by, codes, decimal}
use Rattle.std.specs.List.{sum}
use Rattle.cgs_entry.specs.declared.entry.Entry.{Entry}
use Rattle.cgs_entry.specs.Entries.{is_refused}
use Rattle.cgs_problem.specs.declared.problem.Problem.{Problem}
use Rattle.cgs_print.specs.Printing.{list_text}

-- the sum of bytes modulo the greatest prime below 2^16
abbrev pub byte_sum : List ℕ → ℕ
byte_sum bytes = sum bytes % 65521

-- the lines of a number, of the numbers of entries with a basis and without, and of a sum
abbrev pub summary_lines : ℕ → List Entry → ℕ → List ℕ
summary_lines number entries total =
    codes "stress " ++ decimal number
    ++ codes "\nsegments " ++ decimal (length entries - count_by is_refused entries)
    ++ codes "\nrefused " ++ decimal (count_by is_refused entries)
    ++ codes "\nsum " ++ decimal total
    ++ codes "\n"

-- these lines, with the sum of the bytes of the list's text
abbrev pub summary_text : ℕ → Problem → List Entry → List ℕ
summary_text number problem entries = summary_lines number entries (byte_sum (list_text problem entries))
