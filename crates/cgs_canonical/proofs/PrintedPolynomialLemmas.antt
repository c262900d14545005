-- The terms of a polynomial, one after the other.
use Rattle.std.proofs.Common.{ℕ, zero, suc, ◌≡◌, ◌+◌, ◌<◌, List, [], ◌∷◌, ◌++◌, drop, length, Some, codes, sym, ap, ◌∙◌}
use Rattle.std.proofs.lemmas.List.{append-nil}
use Rattle.std.proofs.lemmas.Option.{get_or_from_slice_get}
use Rattle.std.specs.Prelude.{slice_get}
use Rattle.std.specs.List.{flat_map}
use Rattle.cgs_poly.specs.Ring.{Ring}
use Rattle.cgs_poly.specs.Polynomial.{Term, IsCanonical, places}
use Rattle.cgs_canonical.specs.Printing.{term_text, polynomial_text}
use Rattle.cgs_canonical.proofs.PrintLemmas.{Leaves, leaves_all, leaves_equal, next_item}

pub term_places : (ring : Ring) (f : List Term) (i : ℕ) (t : Term) → IsCanonical ring f → slice_get f i ≡ Some t → length t.exponents ≡ places ring
term_places ring [] i t h e = cc
term_places ring (x ∷ f) zero t h e = let same : x ≡ t = cc in ap (λ (y : Term). length y.exponents) (sym same) ∙ h.2
term_places ring (x ∷ f) (suc i) t h e = term_places ring f i t h.4 e

-- the terms, a plus sign before each
abbrev pub following_terms : Ring → List (List ℕ) → List Term → List ℕ
following_terms ring names f = flat_map (λ term. codes "+" ++ term_text ring names term) f ++ []

pub polynomial_left : (ring : Ring) (names : List (List ℕ)) (f : List Term) (t : Term) (old : List ℕ) → slice_get f 0 ≡ Some t
    → Leaves old old (polynomial_text ring names f) (term_text ring names t ++ following_terms ring names (drop 1 f))
polynomial_left ring names [] t old e = cc
polynomial_left ring names (x ∷ f) t old e =
    let same : x ≡ t = cc in
    let plus = flat_map (λ term. codes "+" ++ term_text ring names term) f in
    leaves_equal _ (leaves_all old _)
    (ap (λ y. term_text ring names y ++ plus) same ∙ ap (λ (xs : List ℕ). term_text ring names t ++ xs) (sym (append-nil plus)))

pub terms_left : (ring : Ring) (names : List (List ℕ)) (f : List Term) (i : ℕ) (t : Term) (old mid text : List ℕ) → i < length f → slice_get f i ≡ Some t
    → Leaves old mid text (following_terms ring names (drop i f))
    → Leaves old mid text (codes "+" ++ (term_text ring names t ++ following_terms ring names (drop (i + 1) f)))
terms_left ring names f i t old mid text h e l =
    leaves_equal _ l (next_item (λ term. codes "+" ++ term_text ring names term) f i t [] h
    ∙ ap (λ y. codes "+" ++ (term_text ring names y ++ following_terms ring names (drop (i + 1) f))) (get_or_from_slice_get f i t t e))
