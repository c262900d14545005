-- The faults that refusals tell. Want of memory tells none.
use Rattle.std.specs.Prelude.{ℕ, Option, Some, None}
use Rattle.cgs_tokens.specs.declared.token.TokenFault.{TokenFault}
use Rattle.cgs_tokens.specs.declared.token.TokenFault.TheVariants as offence
use Rattle.cgs_problem.specs.declared.fault.TextFault.{TextFault}
use Rattle.cgs_problem.specs.declared.fault.TextKind.{TextKind}
use Rattle.cgs_problem.specs.Lexemes.{kind_of}
use Rattle.cgs_text.specs.declared.refusal.TextRefused.{TextRefused}
use Rattle.cgs_text.specs.declared.refusal.TextRefused.TheVariants as refused
use Rattle.cgs_text.specs.declared.refusal.LineRefused.{LineRefused}
use Rattle.cgs_text.specs.declared.refusal.LineRefused.TheVariants.{Kind, OutOfMemory}

abbrev pub kind_told : LineRefused → Option TextKind
kind_told (Kind kind) = Some kind
kind_told OutOfMemory = None

abbrev pub fault_told : TextRefused → Option TextFault
fault_told (refused.Fault fault) = Some fault
fault_told refused.OutOfMemory = None

-- the refusal of a line, by an offence among its tokens
abbrev pub refused_by : TokenFault → LineRefused
refused_by offence.OutOfMemory = OutOfMemory
refused_by fault = Kind (kind_of fault)

-- the refusal of a text, by its line with this number
abbrev pub refused_at : ℕ → LineRefused → TextRefused
refused_at line (Kind kind) = refused.Fault (record { line = line; kind = kind })
refused_at line OutOfMemory = refused.OutOfMemory
