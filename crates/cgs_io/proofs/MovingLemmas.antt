-- Bytes that move from a source or into a sink, a piece at a time.
use Rattle.std.proofs.Common.{◌≡◌, ℕ, ◌+◌, ◌-◌, ◌≤◌, List, ◌++◌, length, take, drop, Option, sym, ap, arith, subst}
use Rattle.std.proofs.lemmas.List.{drop-drop, take_at, take-append-drop, length-take, length-drop}
use Rattle.std.proofs.Math.Seq.{take-add}
use Rattle.std.specs.Io.KnownBytes.{Appends}
use Rattle.std.proofs.KnownBytes.{Appends-trans}

-- the bytes from a place on are those that were copied to a front, and the bytes behind them
pub given_front : (bytes front rest : List ℕ) (at count : ℕ) → front ≡ take count (drop at bytes) → count ≤ length bytes - at
    → drop at bytes ≡ take count (front ++ rest) ++ drop (at + count) bytes
given_front bytes front rest at count e le =
    let len : length front ≡ count = omega (arith, ap length e, length-take count (drop at bytes), length-drop at bytes) in
    rw (take_at front rest count len, e, ← drop-drop count at bytes) (sym (take-append-drop count (drop at bytes)))

-- a text's next bytes were appended after those before a place
pub appends_more : (a b c : Option (List ℕ)) (text : List ℕ) (at count : ℕ) → Appends a b (take at text) → Appends b c (take count (drop at text))
    → Appends a c (take (at + count) text)
appends_more a b c text at count before next =
    subst (Appends a c) (sym (take-add at count text)) (Appends-trans a b c (take at text) (take count (drop at text)) before next)
