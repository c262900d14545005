-- What a line says, or its first offence.
use Rattle.std.specs.Prelude.{ℕ, List, Result, Ok, Err}
pub use Rattle.cgs_tokens.specs.Lexemes.{Lexeme, name, number, plus, minus, times, power, opening, closing, equals, text_of, said_by, said, lexemes_of}
use Rattle.cgs_tokens.specs.declared.token.Token.{Token}
use Rattle.cgs_tokens.specs.declared.token.TokenFault.{TokenFault}
use Rattle.cgs_tokens.specs.declared.token.TokenFault.TheVariants as offence
use Rattle.cgs_tokens.specs.declared.token.Format.TheVariants.{One}
use Rattle.cgs_tokens.specs.Tokens.{tokens_of}
use Rattle.cgs_problem.specs.declared.fault.TextKind.{TextKind}
use Rattle.cgs_problem.specs.declared.fault.TextKind.TheVariants as fault

-- the kind of an offence
abbrev pub kind_of : TokenFault → TextKind
kind_of (offence.Byte place) = fault.Byte
kind_of (offence.Literal place) = fault.Literal
kind_of (offence.LongName place) = fault.Name
kind_of offence.OutOfMemory = fault.Byte

abbrev pub said_in : List ℕ → Result (List Token) TokenFault → Result (List Lexeme) TextKind
said_in line (Ok tokens) = Ok (lexemes_of line tokens)
said_in line (Err offence) = Err (kind_of offence)

abbrev pub line_lexemes : List ℕ → Result (List Lexeme) TextKind
line_lexemes line = said_in line (tokens_of One line)
