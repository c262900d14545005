-- Results: what is done with a value, and what the answer of a call tells of a definition.
use Rattle.std.specs.Prelude.{◌≡◌, Option, Some, None, Result, Ok, Err}

-- a value is passed on, an error stays
abbrev pub and_then : {A B E : Type 0} → Result A E → (A → Result B E) → Result B E
and_then (Ok x) f = f x
and_then (Err e) f = Err e

abbrev pub mapped : {A B E : Type 0} → (A → B) → Result A E → Result B E
mapped f (Ok x) = Ok (f x)
mapped f (Err e) = Err e

-- The call erred by this fault, which the definition has. Want of memory is no fault, and may come at any time.
abbrev pub IsFault : {B F : Type 0} → Option F → Result B F → Type 0
IsFault (Some fault) defined = defined ≡ Err fault
IsFault None defined = Unit {0}

-- The answer of a call is that of the definition: its value, seen so, or its fault.
abbrev pub Answers : {A B E F : Type 0} → (A → B) → (E → Option F) → Result A E → Result B F → Type 0
Answers see fault (Ok x) defined = defined ≡ Ok (see x)
Answers see fault (Err e) defined = IsFault (fault e) defined
