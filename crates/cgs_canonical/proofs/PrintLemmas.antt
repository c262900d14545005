-- A text that is appended piece after piece: what is there, and what is left.
use Rattle.std.proofs.Common.{ℕ, suc, ◌≡◌, ◌+◌, ◌<◌, ◌≤◌, List, [], ◌++◌, take, drop, length, get_or, Result, Ok, Err, refl, sym, ap, ◌∙◌, subst, append_assoc}
use Rattle.std.proofs.Common.{add-one}
use Rattle.std.proofs.lemmas.List.{append-nil, take-append-drop, take_at, drop_all}
use Rattle.std.proofs.Math.Seq.{drop-cons}
use Rattle.std.specs.Result.{OnOk, OnErr, IsErr}
use Rattle.std.specs.List.{flat_map}
use Rattle.cgs_canonical.specs.Printing.{AppendsFront, Prints}

-- new is old with the text appended but for the rest
pub record Leaves (old new text rest : List ℕ) : Type 0 where
  pub done : List ℕ
  pub appended : new ≡ old ++ done
  pub whole : text ≡ done ++ rest

pub leaves_all : (old text : List ℕ) → Leaves old old text text
leaves_all old text = record { done = []; appended = sym (append-nil old); whole = refl }

pub leaves_rest : {old mid new text : List ℕ} (piece rest : List ℕ) → Leaves old mid text (piece ++ rest) → new ≡ mid ++ piece → Leaves old new text rest
leaves_rest {old = old} piece rest l e = record {
  done = l.done ++ piece;
  appended = e ∙ ap (λ (xs : List ℕ). xs ++ piece) l.appended ∙ append_assoc old l.done piece;
  whole = l.whole ∙ sym (append_assoc l.done piece rest);
}

pub leaves_none : {old new text : List ℕ} → Leaves old new text [] → new ≡ old ++ text
leaves_none {old = old} l = l.appended ∙ ap (λ (xs : List ℕ). old ++ xs) (sym (append-nil l.done) ∙ sym l.whole)

-- the same, by what is left
pub leaves_equal : {old new text rest : List ℕ} (other : List ℕ) → Leaves old new text rest → rest ≡ other → Leaves old new text other
leaves_equal {old = old} {new = new} {text = text} other l e = subst (λ (xs : List ℕ). Leaves old new text xs) e l

-- A front of what is left was appended.

pub front_of_rest : {old mid new text : List ℕ} (rest : List ℕ) → Leaves old mid text rest → AppendsFront mid new rest → AppendsFront old new text
front_of_rest {old = old} {text = text} rest l (n, e) =
    let front = l.done ++ take n rest in
    let whole : text ≡ front ++ drop n rest =
    l.whole ∙ ap (λ (xs : List ℕ). l.done ++ xs) (sym (take-append-drop n rest)) ∙ sym (append_assoc l.done (take n rest) (drop n rest)) in
    let taken : take (length front) text ≡ front = ap (λ (xs : List ℕ). take (length front) xs) whole ∙ take_at front (drop n rest) (length front) refl in
    (length front, e ∙ ap (λ (xs : List ℕ). xs ++ take n rest) l.appended ∙ append_assoc old l.done (take n rest) ∙ ap (λ (xs : List ℕ). old ++ xs) (sym taken))

pub front_kept : {old mid new text rest : List ℕ} → Leaves old mid text rest → new ≡ mid → AppendsFront old new text
front_kept {mid = mid} {rest = rest} l e = front_of_rest rest l (0, e ∙ sym (append-nil mid))

pub front_of_piece : {old mid new text : List ℕ} (piece rest : List ℕ) → Leaves old mid text (piece ++ rest) → AppendsFront mid new piece
    → AppendsFront old new text
front_of_piece {mid = mid} {new = new} piece rest l (n, e) =
    let first : Leaves mid (mid ++ take n piece) (piece ++ rest) (drop n piece ++ rest) = record {
      done = take n piece;
      appended = refl;
      whole = ap (λ (xs : List ℕ). xs ++ rest) (sym (take-append-drop n piece)) ∙ append_assoc (take n piece) (drop n piece) rest;
    } in
    front_of_rest (piece ++ rest) l (front_kept first e)

-- What a call answers.

pub at_exit : {E : Type 0} (r : Result (Unit {0}) E) (old new text : List ℕ) → IsErr r → AppendsFront old new text → Prints r old new text
at_exit (Ok done) old new text h f = absurd (cc)
at_exit (Err e) old new text h f = f

-- a last call, whose answer is returned as it is
pub ends : {E : Type 0} (r : Result (Unit {0}) E) {old mid text : List ℕ} (new piece : List ℕ) → Leaves old mid text piece → Prints r mid new piece
    → Prints r old new text
ends (Ok done) {old = old} new piece l p =
    p ∙ ap (λ (xs : List ℕ). xs ++ piece) l.appended ∙ append_assoc old l.done piece ∙ ap (λ (xs : List ℕ). old ++ xs) (sym l.whole)
ends (Err e) new piece l p = front_of_rest piece l p

pub extended : {E : Type 0} (r : Result (Unit {0}) E) (old new piece : List ℕ) → OnOk r (new ≡ old ++ piece) → OnErr r (new ≡ old) → Prints r old new piece
extended (Ok done) old new piece ok err = ok
extended (Err e) old new piece ok err = (0, err ∙ sym (append-nil old))

-- The texts of the items from a place on are left, and a rest.

pub next_item : {A : Type 0} (f : A → List ℕ) (items : List A) (i : ℕ) (item : A) (rest : List ℕ) → i < length items
    → flat_map f (drop i items) ++ rest ≡ f (get_or items i item) ++ (flat_map f (drop (i + 1) items) ++ rest)
next_item f items i item rest h =
    rw (add-one) (ap (λ xs. flat_map f xs ++ rest) (drop-cons items i item h) ∙ append_assoc (f (get_or items i item)) (flat_map f (drop (suc i) items)) rest)

pub leaves_item : {A : Type 0} (f : A → List ℕ) (items : List A) (i : ℕ) (item : A) {old mid new text : List ℕ} (rest : List ℕ) → i < length items
    → Leaves old mid text (flat_map f (drop i items) ++ rest) → new ≡ mid ++ f (get_or items i item)
    → Leaves old new text (flat_map f (drop (i + 1) items) ++ rest)
leaves_item f items i item rest h l e =
    leaves_rest (f (get_or items i item)) (flat_map f (drop (i + 1) items) ++ rest) (leaves_equal _ l (next_item f items i item rest h)) e

pub front_of_item : {A : Type 0} (f : A → List ℕ) (items : List A) (i : ℕ) (item : A) {old mid new text : List ℕ} (rest : List ℕ) → i < length items
    → Leaves old mid text (flat_map f (drop i items) ++ rest) → AppendsFront mid new (f (get_or items i item)) → AppendsFront old new text
front_of_item f items i item rest h l p =
    front_of_piece (f (get_or items i item)) (flat_map f (drop (i + 1) items) ++ rest) (leaves_equal _ l (next_item f items i item rest h)) p

pub leaves_no_item : {A : Type 0} (f : A → List ℕ) (items : List A) (i : ℕ) {old mid text : List ℕ} (rest : List ℕ) → length items ≤ i
    → Leaves old mid text (flat_map f (drop i items) ++ rest) → Leaves old mid text rest
leaves_no_item f items i rest h l = leaves_equal rest l (ap (λ xs. flat_map f xs ++ rest) (drop_all i items h))

-- Lines, one after the other.

pub lines_left : (old first second third last : List ℕ) → Leaves old old (first ++ second ++ third ++ last) (first ++ (second ++ (third ++ last)))
lines_left old first second third last =
    leaves_equal _ (leaves_all old _) (append_assoc (first ++ second) third last ∙ append_assoc first second (third ++ last))

-- Two parts of a text, one after the other.

pub front_first : (old new first second : List ℕ) → AppendsFront old new first → AppendsFront old new (first ++ second)
front_first old new first second f = front_of_piece first second (leaves_all old (first ++ second)) f

pub front_second : (old mid new first second : List ℕ) → mid ≡ old ++ first → AppendsFront mid new second → AppendsFront old new (first ++ second)
front_second old mid new first second e f = front_of_rest second (leaves_rest first second (leaves_all old (first ++ second)) e) f

pub both_parts : (old mid new first second : List ℕ) → mid ≡ old ++ first → new ≡ mid ++ second → new ≡ old ++ (first ++ second)
both_parts old mid new first second e d = d ∙ ap (λ (xs : List ℕ). xs ++ second) e ∙ append_assoc old first second

pub last_part : {E : Type 0} (r : Result (Unit {0}) E) (old mid new first second : List ℕ) → mid ≡ old ++ first → Prints r mid new second
    → Prints r old new (first ++ second)
last_part (Ok done) old mid new first second e p = both_parts old mid new first second e p
last_part (Err failed) old mid new first second e p = front_second old mid new first second e p

-- how two parts that were printed make a text
pub ruleset parts = (front_first, last_part, at_exit)
