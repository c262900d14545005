-- The names of a line one after the other.
use Rattle.std.proofs.Common.{◌≡◌, ℕ, ◌≤◌, Bool, true, false, cond, not, leb, ◌||◌, ◌&&◌, List, [], ◌∷◌, ◌++◌, length, Result, Ok, Err, refl, sym, ap, ◌∙◌}
use Rattle.std.proofs.Common.{subst}
use Rattle.std.proofs.lemmas.Bool.{and_parts, or_parts, leb-true}
use Rattle.std.proofs.lemmas.Cmp.{nat_list_eq_equiv}
use Rattle.std.proofs.lemmas.List.{append-nil}
use Rattle.std.proofs.lemmas.List.Folds.{list_any-append}
use Rattle.std.proofs.lemmas.Map.Text.{is_eq-slice_cmp}
use Rattle.std.specs.Ordering.{is_eq, nat_cmp}
use Rattle.std.specs.Cmp.Lexicographic.{slice_cmp}
use Rattle.std.specs.Prelude.{bytes_eq}
use Rattle.std.specs.List.{AllByRecursion, IsDistinct, list_any}
use Rattle.cgs_list.specs.Results.{and_then}
use Rattle.cgs_tokens.specs.Lexemes.{Lexeme, name, number, plus, minus, times, power, opening, closing, equals}
use Rattle.cgs_problem.specs.declared.fault.TextKind.{TextKind}
use Rattle.cgs_problem.specs.declared.fault.TextKind.TheVariants as fault
use Rattle.cgs_problem.specs.Drafts.{names_said, counted}

-- whether a name was given before
abbrev pub given : List (List ℕ) → List (List ℕ) → List ℕ → Bool
given others names word = list_any (bytes_eq word) others || list_any (bytes_eq word) names

pub not_given : (others names : List (List ℕ)) (word : List ℕ) → list_any (bytes_eq word) others ≡ false
    → list_any (bytes_eq word) names ≡ false → given others names word ≡ false
not_given others names word h k = rw (h, k) refl

-- what an answer says of its opposite
pub opposite_false : (x b : Bool) → x ≡ not b → x ≡ true → b ≡ false
opposite_false x true e h = absurd (cc)
opposite_false x false e h = refl

-- a new name
pub new_name : (others names : List (List ℕ)) (word : List ℕ) (lexemes rest : List Lexeme) (total : Result (List (List ℕ)) TextKind)
    → lexemes ≡ name word ∷ rest → given others names word ≡ false
    → names_said others names lexemes ≡ total → names_said others (names ++ word ∷ []) rest ≡ total
new_name others names word lexemes rest total e new so_far =
    sym (ap (names_said others names) e ∙ ap (λ b. cond b (Err fault.Name) (names_said others (names ++ word ∷ []) rest)) new) ∙ so_far

-- one more name was seen
pub seen_more : (front : List (List ℕ)) (word other : List ℕ) (seen : Bool) → seen ≡ list_any (bytes_eq other) front
    → cond (is_eq (slice_cmp nat_cmp word other)) true seen ≡ list_any (bytes_eq other) (front ++ word ∷ [])
seen_more front word other seen h =
    let e : is_eq (slice_cmp nat_cmp word other) ≡ bytes_eq other word = is_eq-slice_cmp word other ∙ nat_list_eq_equiv.symm word other in
    rw (e, h, list_any-append (bytes_eq other) front (word ∷ [])) (either (list_any (bytes_eq other) front) (bytes_eq other word))
  where
    either : (a b : Bool) → cond b true a ≡ (a || (b || false))
    either true true = refl
    either true false = refl
    either false true = refl
    either false false = refl

-- distinct names

none_among : (w : List ℕ) (names : List (List ℕ)) → list_any (bytes_eq w) names ≡ false → AllByRecursion (λ y. bytes_eq w y ≡ false) names
none_among w [] h = tt
none_among w (x ∷ names) h =
    let parts = or_parts (bytes_eq w x) (list_any (bytes_eq w) names) h in
    (parts.0, none_among w names parts.1)

other_than : (x w : List ℕ) → bytes_eq w x ≡ false → bytes_eq x w ≡ false
other_than x w h = nat_list_eq_equiv.symm x w ∙ h

all_with : (x w : List ℕ) (names others : List (List ℕ)) → bytes_eq x w ≡ false → AllByRecursion (λ y. bytes_eq x y ≡ false) (names ++ others)
    → AllByRecursion (λ y. bytes_eq x y ≡ false) ((names ++ w ∷ []) ++ others)
all_with x w [] others e h = (e, h)
all_with x w (y ∷ names) others e h = (h.0, all_with x w names others e h.1)

-- a further name that is none of those before it
still_distinct : (w : List ℕ) (names others : List (List ℕ)) → list_any (bytes_eq w) names ≡ false → list_any (bytes_eq w) others ≡ false
    → IsDistinct bytes_eq (names ++ others) → IsDistinct bytes_eq ((names ++ w ∷ []) ++ others)
unfolding IsDistinct
still_distinct w [] others mine theirs h = (none_among w others theirs, h)
still_distinct w (x ∷ names) others mine theirs h =
    let parts = or_parts (bytes_eq w x) (list_any (bytes_eq w) names) mine in
    (all_with x w names others (other_than x w parts.0) h.0, still_distinct w names others parts.1 theirs h.1)

said_distinct : (others front : List (List ℕ)) (lexemes : List Lexeme) (names : List (List ℕ)) → names_said others front lexemes ≡ Ok names
    → IsDistinct bytes_eq (front ++ others) → IsDistinct bytes_eq (names ++ others)
said_distinct others front [] names e h = let same : front ≡ names = cc in subst (λ (ns : List (List ℕ)). IsDistinct bytes_eq (ns ++ others)) same h
said_distinct others front (number n ∷ lexemes) names e h = absurd (cc)
said_distinct others front (plus ∷ lexemes) names e h = absurd (cc)
said_distinct others front (minus ∷ lexemes) names e h = absurd (cc)
said_distinct others front (times ∷ lexemes) names e h = absurd (cc)
said_distinct others front (power ∷ lexemes) names e h = absurd (cc)
said_distinct others front (opening ∷ lexemes) names e h = absurd (cc)
said_distinct others front (closing ∷ lexemes) names e h = absurd (cc)
said_distinct others front (equals ∷ lexemes) names e h = absurd (cc)
said_distinct others front (name word ∷ lexemes) names e h = step (said_distinct others (front ++ word ∷ []) lexemes names) (given others front word) refl e
  where
    step : (names_said others (front ++ word ∷ []) lexemes ≡ Ok names → IsDistinct bytes_eq ((front ++ word ∷ []) ++ others)
        → IsDistinct bytes_eq (names ++ others))
        → (b : Bool) → given others front word ≡ b → cond b (Err fault.Name) (names_said others (front ++ word ∷ []) lexemes) ≡ Ok names
        → IsDistinct bytes_eq (names ++ others)
    step rest true g e = absurd (cc)
    step rest false g e = let parts = or_parts (list_any (bytes_eq word) others) (list_any (bytes_eq word) front) g in rest e
        (still_distinct word front others parts.1 parts.0 h)

-- what is known of the names of a line
pub record AreNames (least : ℕ) (others names : List (List ℕ)) : Type 0 where
  pub enough : least ≤ length names
  pub few : length names ≤ 8
  pub distinct : IsDistinct bytes_eq others → IsDistinct bytes_eq (names ++ others)

pub are_names : (others : List (List ℕ)) (least : ℕ) (lexemes : List Lexeme) (names : List (List ℕ))
    → and_then (names_said others [] lexemes) (counted least 8) ≡ Ok names → AreNames least others names
are_names others least lexemes names h = read (names_said others [] lexemes) refl h
  where
    within : (said : List (List ℕ)) (b : Bool) → names_said others [] lexemes ≡ Ok said → leb least (length said) && leb (length said) 8 ≡ b
        → cond b (Ok said) (Err fault.Count) ≡ Ok names → AreNames least others names
    within said true e t k =
        let same : said ≡ names = cc in
        let parts = and_parts (leb least (length said)) (leb (length said) 8) t in
        subst (AreNames least others) same (record
        { enough = leb-true _ _ parts.0; few = leb-true _ _ parts.1; distinct = said_distinct others [] lexemes said e })
    within said false e t k = absurd (cc)

    read : (r : Result (List (List ℕ)) TextKind) → names_said others [] lexemes ≡ r → and_then r (counted least 8) ≡ Ok names → AreNames least others names
    read (Ok said) e k = within said (leb least (length said) && leb (length said) 8) e refl k
    read (Err kind) e k = absurd (cc)

pub no_names_distinct : IsDistinct bytes_eq []
unfolding IsDistinct
no_names_distinct = tt

pub nothing_after : (names : List (List ℕ)) → IsDistinct bytes_eq (names ++ []) → IsDistinct bytes_eq names
nothing_after names h = rw append-nil at h
