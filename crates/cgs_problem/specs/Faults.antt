-- The words that stand for the kinds of fault in a printed fault.
use Rattle.std.specs.Prelude.{ℕ, List, codes}
use Rattle.cgs_problem.specs.declared.fault.TextKind.{TextKind}
use Rattle.cgs_problem.specs.declared.fault.TextKind.TheVariants as fault

abbrev pub word_of : TextKind → List ℕ
word_of fault.After = codes "after"
word_of fault.Byte = codes "byte"
word_of fault.Literal = codes "literal"
word_of fault.Name = codes "name"
word_of fault.Place = codes "place"
word_of fault.Syntax = codes "syntax"
word_of fault.Field = codes "field"
word_of fault.Count = codes "count"
word_of fault.Order = codes "order"
word_of fault.Thesis = codes "thesis"
word_of fault.Unknown = codes "unknown"
word_of fault.Variable = codes "variable"
word_of fault.Exponent = codes "exponent"
word_of fault.Degree = codes "degree"
word_of fault.End = codes "end"
word_of fault.Format = codes "format"
word_of fault.Large = codes "large"
word_of fault.Nested = codes "nested"
