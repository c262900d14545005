-- The words that stand for the kinds of term order in a file.
use Rattle.std.specs.Prelude.{ℕ, List, [], ◌∷◌, codes, bytes_eq, if◌then◌else◌, Option, Some, None}
use Rattle.cgs_order.specs.declared.kind.Kind.{Kind}
use Rattle.cgs_order.specs.declared.kind.Kind.TheVariants.{Lex, GrLex, GrevLex}

abbrev pub word_of : Kind → List ℕ
word_of Lex = codes "lex"
word_of GrLex = codes "grlex"
word_of GrevLex = codes "grevlex"

-- the kind of these whose word it is
abbrev pub kind_among : List Kind → List ℕ → Option Kind
kind_among [] word = None
kind_among (kind ∷ kinds) word = if bytes_eq word (word_of kind) then Some kind else kind_among kinds word

abbrev pub kind_named : List ℕ → Option Kind
kind_named word = kind_among (Lex ∷ GrLex ∷ GrevLex ∷ []) word
