use Rattle.std.proofs.Common.{map, string_bytes, IsUtf8, slice_index_or}
use Rattle.std.proofs.lemmas.List.Elements.{All-map, All-drop}
use Rattle.std.proofs.lemmas.Str.{IsUtf8-string_bytes}
use Rattle.cgs.proofs.words_of.Goals as goal

-- an argument is a `String`, whose bytes are UTF-8
pub returns : goal.returns
returns g c =
    let arguments = c.deref.result.now in
    rw c.in_ok-words_after_name.ensures
    (All-drop IsUtf8 1 (map string_bytes arguments) (All-map IsUtf8 string_bytes arguments (λ k d within. IsUtf8-string_bytes (slice_index_or arguments k d))))
