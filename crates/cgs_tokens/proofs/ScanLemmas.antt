-- Tokens one after the other.
use Rattle.std.proofs.Common.{◌≡◌, ℕ, zero, suc, ◌-◌, ◌+◌, ◌<◌, ◌≤◌, true, false, List, [], ◌∷◌, ◌++◌, get_or, drop, length, Result, Ok, Err, refl, sym, ap}
use Rattle.std.proofs.Common.{◌∙◌, append_assoc, arith, add-zero}
use Rattle.std.proofs.lemmas.List.{append-nil, drop_more, drop_all, drop-drop}
use Rattle.cgs_list.specs.Results.{mapped, Answers}
use Rattle.cgs_tokens.specs.declared.token.Token.{Token}
use Rattle.cgs_tokens.specs.declared.token.Format.{Format}
use Rattle.cgs_tokens.specs.declared.token.TokenFault.{TokenFault}
use Rattle.cgs_tokens.specs.Tokens.{is_blank, tokens_from, token_at, with_first, offence_of}
use Rattle.cgs_tokens.specs.declared.token.TokenFault.TheVariants.{Byte, Literal, LongName, OutOfMemory}

-- tokens that were read, before what is still read
abbrev pub with_front : List Token → Result (List Token) TokenFault → Result (List Token) TokenFault
with_front front read = mapped (λ tokens. front ++ tokens) read

pub regroup : (front : List Token) (t : Token) (rest : Result (List Token) TokenFault)
    → with_front front (with_first t rest) ≡ with_front (front ++ t ∷ []) rest
regroup front t (Ok tokens) = ap (λ (ts : List Token). Ok ts) (sym (append_assoc front (t ∷ []) tokens))
regroup front t (Err fault) = refl

-- what is within a token is passed over
pub skips : (format : Format) (k place : ℕ) (bytes : List ℕ) → tokens_from format k place bytes ≡ tokens_from format 0 (place + k) (drop k bytes)
unfolding tokens_from
skips format zero place [] = refl
skips format (suc k) place [] = refl
skips format zero place (b ∷ bytes) = ap (λ n. tokens_from format 0 n (b ∷ bytes)) (sym (add-zero place))
skips format (suc k) place (b ∷ bytes) = skips format k (place + 1) bytes ∙ ap (λ n. tokens_from format 0 n (drop k bytes)) (omega arith)

pub blank : (format : Format) (front : List Token) (line : List ℕ) (i : ℕ) (total : Result (List Token) TokenFault) → i < length line
    → is_blank (get_or line i 0) ≡ true
    → with_front front (tokens_from format 0 i (drop i line)) ≡ total → with_front front (tokens_from format 0 (i + 1) (drop (i + 1) line)) ≡ total
unfolding tokens_from
blank format front line i total lt h so_far =
    let one : with_front front (tokens_from format 0 i (drop i line)) ≡ with_front front (tokens_from format 0 (i + 1) (drop (i + 1) line)) =
    rw (drop_more line i 0 lt, h) refl in
    sym one ∙ so_far

pub read : (format : Format) (front : List Token) (line : List ℕ) (i : ℕ) (t : Token) (total : Result (List Token) TokenFault) → i < length line
    → is_blank (get_or line i 0) ≡ false
    → Ok t ≡ token_at format i (drop i line) → i < t.end
    → with_front front (tokens_from format 0 i (drop i line)) ≡ total → with_front (front ++ t ∷ []) (tokens_from format 0 t.end (drop t.end line)) ≡ total
unfolding tokens_from
read format front line i t total lt h e more so_far =
    let cells : drop i line ≡ get_or line i 0 ∷ drop (i + 1) line = drop_more line i 0 lt in
    let e' : token_at format i (get_or line i 0 ∷ drop (i + 1) line) ≡ Ok t = sym (e ∙ ap (token_at format i) cells) in
    let end : (i + 1) + (t.end - (i + 1)) ≡ t.end = omega arith in
    let rest : tokens_from format (t.end - (i + 1)) (i + 1) (drop (i + 1) line) ≡ tokens_from format 0 t.end (drop t.end line) =
    skips format (t.end - (i + 1)) (i + 1) (drop (i + 1) line) ∙ rw (drop-drop (t.end - (i + 1)) (i + 1) line, end) refl in
    let one : with_front front (tokens_from format 0 i (drop i line)) ≡ with_front (front ++ t ∷ []) (tokens_from format 0 t.end (drop t.end line)) =
    rw (cells, h, e', rest) (regroup front t (tokens_from format 0 t.end (drop t.end line))) in
    sym one ∙ so_far

pub offends : (format : Format) (front : List Token) (line : List ℕ) (i : ℕ) (f : TokenFault) (total : Result (List Token) TokenFault) → i < length line
    → is_blank (get_or line i 0) ≡ false
    → Err f ≡ token_at format i (drop i line) → with_front front (tokens_from format 0 i (drop i line)) ≡ total
    → Answers (λ (ts : List Token). ts) offence_of (Err f) total
unfolding tokens_from
offends format front line i f total lt h e so_far =
    let cells : drop i line ≡ get_or line i 0 ∷ drop (i + 1) line = drop_more line i 0 lt in
    let e' : token_at format i (get_or line i 0 ∷ drop (i + 1) line) ≡ Err f = sym (e ∙ ap (token_at format i) cells) in
    let one : with_front front (tokens_from format 0 i (drop i line)) ≡ Err f = rw (cells, h, e') refl in
    told f total (sym so_far ∙ one)
  where
    told : (f : TokenFault) (total : Result (List Token) TokenFault) → total ≡ Err f → Answers (λ (ts : List Token). ts) offence_of (Err f) total
    told (Byte p) total e = e
    told (Literal p) total e = e
    told (LongName p) total e = e
    told OutOfMemory total e = tt

pub is_done : (format : Format) (front : List Token) (line : List ℕ) (i : ℕ) (total : Result (List Token) TokenFault) → length line ≤ i
    → with_front front (tokens_from format 0 i (drop i line)) ≡ total → total ≡ Ok front
unfolding tokens_from
is_done format front line i total le so_far =
    let one : with_front front (tokens_from format 0 i (drop i line)) ≡ Ok front = rw (drop_all i line le) (ap (λ (ts : List Token). Ok ts)
    (append-nil front)) in
    sym so_far ∙ one
