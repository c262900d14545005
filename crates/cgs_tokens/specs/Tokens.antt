-- A line as tokens, from the left, or its first offence.
use Rattle.std.specs.Prelude.{ℕ, zero, suc, ◌+◌, ◌-◌, Bool, ◌||◌, List, [], ◌∷◌, length, if◌then◌else◌, ◌==◌, nat_lt, Option, Some, None, Result, Ok, Err}
use Rattle.std.specs.List.{prefix_len}
use Rattle.std.specs.Char.{is_ascii_digit, is_ascii_alphabetic, is_ascii_alphanumeric}
use Rattle.cgs_list.specs.Results.{mapped}
pub use Rattle.cgs_list.specs.Results.{and_then}
use Rattle.cgs_tokens.specs.declared.token.Token.{Token}
use Rattle.cgs_tokens.specs.declared.token.TokenKind.{TokenKind}
use Rattle.cgs_tokens.specs.declared.token.TokenKind.TheVariants as kind
use Rattle.cgs_tokens.specs.declared.token.Format.{Format}
use Rattle.cgs_tokens.specs.declared.token.Format.TheVariants.{One, Two}
use Rattle.cgs_tokens.specs.declared.token.TokenFault.{TokenFault}
use Rattle.cgs_tokens.specs.declared.token.TokenFault.TheVariants.{Byte, Literal, LongName, OutOfMemory}

-- a space or a tab
abbrev pub is_blank : ℕ → Bool
is_blank byte = (byte == 32) || (byte == 9)

-- a letter, a digit or `_`
abbrev pub is_word : ℕ → Bool
is_word byte = is_ascii_alphanumeric byte || (byte == 95)

abbrev pub spanned : TokenKind → ℕ → ℕ → Token
spanned kind place length = record { kind = kind; start = place; end = place + length }

-- the token, unless it is longer than the limit
abbrev pub at_most : ℕ → ℕ → Result Token TokenFault → TokenFault → Result Token TokenFault
at_most limit length token fault = if nat_lt limit length then Err fault else token

-- The longest name or number, or the sign, that the bytes begin with. The place is that of the first byte.
unfoldable pub name_at : ℕ → List ℕ → Result Token TokenFault
name_at place bytes = at_most 32 (prefix_len is_word bytes) (Ok (spanned kind.Name place (prefix_len is_word bytes))) (LongName place)

unfoldable pub number_at : ℕ → List ℕ → Result Token TokenFault
number_at place bytes = at_most 18 (prefix_len is_ascii_digit bytes) (Ok (spanned kind.Number place (prefix_len is_ascii_digit bytes))) (Literal place)

-- a parenthesis or an equality sign
abbrev pub bracket_in : Format → ℕ → Option TokenKind
bracket_in One byte = None
bracket_in Two byte = if byte == 40 then Some kind.Open else (if byte == 41 then Some kind.Close else (if byte == 61 then Some kind.Equal else None))

unfoldable pub sign_in : Format → ℕ → Option TokenKind
sign_in format byte =
    if byte == 43 then Some kind.Plus
    else (if byte == 45 then Some kind.Minus
    else (if byte == 42 then Some kind.Times
    else (if byte == 94 then Some kind.Power
    else bracket_in format byte)))

abbrev pub sign_at : ℕ → Option TokenKind → Result Token TokenFault
sign_at place (Some kind) = Ok (spanned kind place 1)
sign_at place None = Err (Byte place)

unfoldable pub token_at : Format → ℕ → List ℕ → Result Token TokenFault
token_at format place [] = Err (Byte place)
token_at format place (byte ∷ bytes) =
    if is_ascii_alphabetic byte then name_at place (byte ∷ bytes)
    else (if is_ascii_digit byte then number_at place (byte ∷ bytes)
    else sign_at place (sign_in format byte))

abbrev pub with_first : Token → Result (List Token) TokenFault → Result (List Token) TokenFault
with_first token tokens = mapped (λ tokens. token ∷ tokens) tokens

-- The tokens of the bytes from a place on, where the first `skip` bytes still belong to the token before.
unfoldable pub tokens_from : Format → ℕ → ℕ → List ℕ → Result (List Token) TokenFault
tokens_from format skip place [] = Ok []
tokens_from format (suc skip) place (byte ∷ bytes) = tokens_from format skip (place + 1) bytes
tokens_from format zero place (byte ∷ bytes) =
    if is_blank byte then tokens_from format 0 (place + 1) bytes
    else and_then (token_at format place (byte ∷ bytes)) (λ token. with_first token (tokens_from format (token.end - (place + 1)) (place + 1) bytes))

abbrev pub tokens_of : Format → List ℕ → Result (List Token) TokenFault
tokens_of format line = tokens_from format 0 0 line

-- the offences: want of memory is none
abbrev pub offence_of : TokenFault → Option TokenFault
offence_of OutOfMemory = None
offence_of offence = Some offence
