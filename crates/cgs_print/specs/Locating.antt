-- The printed text of where points lie in a list of entries.
use Rattle.std.specs.Prelude.{ℕ, List, [], ◌++◌, length, take, slice_get, codes, decimal, Option, Some, None}
use Rattle.std.specs.List.{flat_map}
use Rattle.cgs_poly.specs.Polynomial.{Term}
use Rattle.cgs_poly.specs.Parameters.{variables_ring}
use Rattle.cgs_entry.specs.declared.entry.Entry.{Entry}
use Rattle.cgs_locate.specs.declared.search.Located.{Located}
use Rattle.cgs_locate.specs.Located.{located}
use Rattle.cgs_problem.specs.declared.problem.Problem.{Problem}
use Rattle.cgs_canonical.specs.Printing.{polynomial_lines, point_line}
use Rattle.cgs_print.specs.Printing.{head_line}

-- the first line of an entry, if there is one
abbrev pub head_if_any : Option Entry → List ℕ
head_if_any None = []
head_if_any (Some entry) = head_line entry

-- the lines of a basis in the variables alone
abbrev pub special_lines : Problem → List (List Term) → List ℕ
special_lines problem basis = polynomial_lines (codes "basis") (variables_ring problem.ring) (take problem.ring.variables problem.names) basis

-- the first line of the entry that was found and the lines of the basis there, or that there is no such entry
abbrev pub place_text : Problem → List Entry → Option Located → List ℕ
place_text problem entries None = codes "nowhere\n"
place_text problem entries (Some found) = head_if_any (slice_get entries found.index) ++ special_lines problem found.basis

-- the lines of a point and of where it lies
abbrev pub point_text : Problem → List Entry → List ℕ → List ℕ
point_text problem entries point = point_line point ++ place_text problem entries (located problem.ring point entries)

-- the line of the number of points
abbrev pub points_line : ℕ → List ℕ
points_line count = codes "points " ++ decimal count ++ codes "\n"

-- the lines of all points of the problem in order, and their number
abbrev pub located_text : Problem → List Entry → List ℕ
located_text problem entries = flat_map (point_text problem entries) problem.points ++ points_line (length problem.points)
