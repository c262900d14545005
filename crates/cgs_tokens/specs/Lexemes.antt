-- What the tokens of a line say.
use Rattle.std.specs.Prelude.{◌≡◌, ◌≤◌, ℕ, List, [], ◌∷◌, length, map, slice_range, Option, Some, None}
use Rattle.std.specs.List.{AllByRecursion}
use Rattle.std.specs.Str.Parse.{digits_value, AllDigits}
use Rattle.cgs_tokens.specs.declared.lexeme.Lexeme.{Lexeme as Read}
use Rattle.cgs_tokens.specs.declared.lexeme.Lexeme.TheVariants as read
use Rattle.cgs_tokens.specs.declared.token.Token.{Token}
use Rattle.cgs_tokens.specs.declared.token.TokenKind.{TokenKind}
use Rattle.cgs_tokens.specs.declared.token.TokenKind.TheVariants as kind

pub data Lexeme : Type 0 where
  name : List ℕ → Lexeme
  number : ℕ → Lexeme
  plus : Lexeme
  minus : Lexeme
  times : Lexeme
  power : Lexeme
  opening : Lexeme
  closing : Lexeme
  equals : Lexeme

abbrev pub text_of : List ℕ → Token → List ℕ
text_of line token = slice_range line token.start token.end

abbrev pub said_by : TokenKind → List ℕ → Lexeme
said_by kind.Name text = name text
said_by kind.Number text = number (digits_value 10 text)
said_by kind.Plus text = plus
said_by kind.Minus text = minus
said_by kind.Times text = times
said_by kind.Power text = power
said_by kind.Open text = opening
said_by kind.Close text = closing
said_by kind.Equal text = equals

abbrev pub said : List ℕ → Token → Lexeme
said line token = said_by token.kind (text_of line token)

-- what the tokens say, in order
abbrev pub lexemes_of : List ℕ → List Token → List Lexeme
lexemes_of line tokens = map (said line) tokens

-- the text of a number is at most 18 digits
abbrev pub IsText : TokenKind → List ℕ → Type 0
IsText kind.Number text = AllDigits 10 text × (length text ≤ 18)
IsText kind text = Unit {0}

-- a token is a slice of the line
pub record IsToken (line : List ℕ) (token : Token) : Type 0 where
  pub ordered : token.start ≤ token.end
  pub within : token.end ≤ length line
  pub text : IsText token.kind (text_of line token)

abbrev pub AreTokens : List ℕ → List Token → Type 0
AreTokens line tokens = AllByRecursion (IsToken line) tokens

-- a lexeme of the program, whose name is a slice of the line
abbrev pub seen : Read → Lexeme
seen (read.Name text) = name text.now
seen (read.Number n) = number n
seen read.Plus = plus
seen read.Minus = minus
seen read.Times = times
seen read.Power = power
seen read.Open = opening
seen read.Close = closing
seen read.Equal = equals

-- the first lexeme and the others, if there are any
abbrev pub IsSplit : List Lexeme → Option (Read × List Lexeme) → Type 0
IsSplit lexemes None = lexemes ≡ []
IsSplit lexemes (Some first) = lexemes ≡ seen first.0 ∷ first.1
