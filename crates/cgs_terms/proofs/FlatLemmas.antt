-- Terms kept in two flat lists: appended lists, a front, what is behind it, one place, and when two are the same.
use Rattle.std.proofs.Common.{ℕ, zero, suc, ◌≡◌, ◌+◌, ◌-◌, ◌*◌, ◌<◌, ◌≤◌, List, [], ◌∷◌, ◌++◌, length, take, drop, get_or, set, Some, refl, sym, ap, ◌∙◌, arith}
use Rattle.std.proofs.lemmas.List.{length-take, length-drop, take-append-drop, drop-drop, take-append-le, drop-append-le, drop-take, take-take, get_or_read}
use Rattle.std.proofs.lemmas.List.{nil_from_length}
use Rattle.std.proofs.Math.Nat.{mul-le-mul_right, le_of_mul-le-mul_left, le_antisymm}
use Rattle.std.specs.Prelude.{slice_get}
use Rattle.cgs_terms.specs.Polynomial.{Term, term}
use Rattle.cgs_terms.specs.Flat.{terms_of, with_coefficient, coefficients_of, exponents_of}

pub terms_length : (p : ℕ) (cs es : List ℕ) → length (terms_of p cs es) ≡ length cs
terms_length p [] es = refl
terms_length p (c ∷ cs) es = ap suc (terms_length p cs (drop p es))

-- no exponents, or those of a further term after those of the first
first_fits : (p n : ℕ) (es : List ℕ) → length es ≡ suc n * p → (p ≤ length es) × (length (drop p es) ≡ n * p)
first_fits p n es h = (omega arith, omega (arith, length-drop p es))

pub terms_append : (p : ℕ) (cs ds es ns : List ℕ) → length es ≡ length cs * p → terms_of p (cs ++ ds) (es ++ ns) ≡ terms_of p cs es ++ terms_of p ds ns
terms_append p [] ds [] ns h = refl
terms_append p [] ds (e ∷ es) ns h = absurd (omega arith)
terms_append p (c ∷ cs) ds es ns h =
    let fits = first_fits p (length cs) es h in
    let t : take p (es ++ ns) ≡ take p es = take-append-le p es ns fits.0 in
    let d : drop p (es ++ ns) ≡ drop p es ++ ns = drop-append-le p es ns fits.0 in
    cc (t, d, terms_append p cs ds (drop p es) ns fits.1)

pub terms_drop : (p i : ℕ) (cs es : List ℕ) → terms_of p (drop i cs) (drop (i * p) es) ≡ drop i (terms_of p cs es)
terms_drop p zero cs es = let z : zero * p ≡ zero = omega arith in rw z refl
terms_drop p (suc i) [] es = refl
terms_drop p (suc i) (c ∷ cs) es =
    let s : suc i * p ≡ p + i * p = omega arith in
    let d : drop (suc i * p) es ≡ drop (i * p) (drop p es) = ap (λ n. drop n es) s ∙ sym (drop-drop (i * p) p es) in
    cc (d, terms_drop p i cs (drop p es))

pub terms_take : (p i : ℕ) (cs es : List ℕ) → length es ≡ length cs * p → terms_of p (take i cs) (take (i * p) es) ≡ take i (terms_of p cs es)
terms_take p zero cs es h = refl
terms_take p (suc i) [] es h = refl
terms_take p (suc i) (c ∷ cs) es h =
    let fits = first_fits p (length cs) es h in
    let s : suc i * p ≡ p + i * p = omega arith in
    let le : p ≤ suc i * p = omega arith in
    let t : take p (take (suc i * p) es) ≡ take p es = take-take p (suc i * p) es le in
    let d : drop p (take (suc i * p) es) ≡ take (i * p) (drop p es) = ap (λ n. drop p (take n es)) s ∙ drop-take p (i * p) es in
    cc (t, d, terms_take p i cs (drop p es) fits.1)

-- the term at a place
pub terms_at : (p i : ℕ) (cs es : List ℕ) → i < length cs → slice_get (terms_of p cs es) i ≡ Some (term (get_or cs i 0) (take p (drop (i * p) es)))
terms_at p i [] es h = absurd (omega arith)
terms_at p zero (c ∷ cs) es h = let z : zero * p ≡ zero = omega arith in rw z refl
terms_at p (suc i) (c ∷ cs) es h =
    let s : suc i * p ≡ p + i * p = omega arith in
    let d : drop (suc i * p) es ≡ drop (i * p) (drop p es) = ap (λ n. drop n es) s ∙ sym (drop-drop (i * p) p es) in
    cc (d, terms_at p i cs (drop p es) (omega arith))

-- what is read of a list kept flat

pub count_of : (p : ℕ) (cs es : List ℕ) (f : List Term) → terms_of p cs es ≡ f → length f ≡ length cs
count_of p cs es f v = sym (ap length v) ∙ terms_length p cs es

pub part_fits : (p i : ℕ) (cs es : List ℕ) (f : List Term) → terms_of p cs es ≡ f → length es ≡ length cs * p → i ≤ length f → i * p ≤ length es
part_fits p i cs es f v h l =
    let n = count_of p cs es f v in
    let k : i ≤ length cs = omega arith in
    omega (arith, mul-le-mul_right p k, h)

pub term_read : (p i c : ℕ) (cs es m : List ℕ) (f : List Term) → terms_of p cs es ≡ f → i < length f → c ≡ get_or cs i c
    → m ≡ take ((i + 1 - i) * p) (drop (i * p) es) → slice_get f i ≡ Some (term c m)
term_read p i c cs es m f v l r q =
    let k = count_of p cs es f v in
    let lt : i < length cs = omega arith in
    let one : (i + 1 - i) * p ≡ p = let d : i + 1 - i ≡ 1 = omega arith in rw d (omega arith) in
    let a = terms_at p i cs es lt in
    let s : slice_get f i ≡ slice_get (terms_of p cs es) i = ap (λ g. slice_get g i) (sym v) in
    let d : c ≡ get_or cs i 0 = get_or_read cs i c lt r 0 in
    let e : take ((i + 1 - i) * p) (drop (i * p) es) ≡ take p (drop (i * p) es) = ap (λ n. take n (drop (i * p) es)) one in
    cc

-- parts of flat lists are flat

pub drop_flat : (p i : ℕ) (cs es : List ℕ) → length es ≡ length cs * p → length (drop (i * p) es) ≡ length (drop i cs) * p
drop_flat p zero cs es h = let z : zero * p ≡ zero = omega arith in rw z h
drop_flat p (suc i) [] es h = omega (arith, length-drop (suc i * p) es)
drop_flat p (suc i) (c ∷ cs) es h =
    let fits = first_fits p (length cs) es h in
    let s : suc i * p ≡ p + i * p = omega arith in
    let d : drop (suc i * p) es ≡ drop (i * p) (drop p es) = ap (λ n. drop n es) s ∙ sym (drop-drop (i * p) p es) in
    ap length d ∙ drop_flat p i cs (drop p es) fits.1

pub take_flat : (p i : ℕ) (cs es : List ℕ) → length es ≡ length cs * p → length (take (i * p) es) ≡ length (take i cs) * p
take_flat p zero cs es h = let z : zero * p ≡ zero = omega arith in rw z refl
take_flat p (suc i) [] es h = omega (arith, length-take (suc i * p) es)
take_flat p (suc i) (c ∷ cs) es h =
    let fits = first_fits p (length cs) es h in
    let ih = take_flat p i cs (drop p es) fits.1 in
    omega (arith, length-take (suc i * p) es, length-take (i * p) (drop p es), length-drop p es, ih, fits.0)

-- lists that are flat, and stand for these terms
pub record FlatFor (p : ℕ) (cs es : List ℕ) (f : List Term) : Type 0 where
  pub flat : length es ≡ length cs * p
  pub terms : terms_of p cs es ≡ f

-- the terms from one place up to another
pub flat_part : (p from n : ℕ) (cs es ds ns : List ℕ) (f : List Term) → terms_of p cs es ≡ f → length es ≡ length cs * p
    → ds ≡ take n (drop from cs) → ns ≡ take (n * p) (drop (from * p) es) → FlatFor p ds ns (take n (drop from f))
flat_part p from n cs es ds ns f v h d e =
    let behind = drop_flat p from cs es h in
    record {
      flat = rw (d, e) (take_flat p n (drop from cs) (drop (from * p) es) behind);
      terms = rw (d, e) (terms_take p n (drop from cs) (drop (from * p) es) behind ∙ ap (take n) (terms_drop p from cs es ∙ ap (drop from) v));
    }

-- another coefficient at a place
pub with_set : (p i c : ℕ) (cs es : List ℕ) (f : List Term) → terms_of p cs es ≡ f → i < length f → terms_of p (set cs i c) es ≡ with_coefficient i c f
with_set p i c cs es f v h = here p i cs es (omega (arith, h, count_of p cs es f v)) ∙ ap (with_coefficient i c) v
  where
    here : (p i : ℕ) (cs es : List ℕ) → i < length cs → terms_of p (set cs i c) es ≡ with_coefficient i c (terms_of p cs es)
    here p i [] es h = absurd (omega arith)
    here p zero (d ∷ cs) es h = refl
    here p (suc i) (d ∷ cs) es h = ap (λ g. term d (take p es) ∷ g) (here p i cs (drop p es) (omega arith))

-- flat lists are the same exactly where their terms are

same_places : (n p q : ℕ) → suc n * p ≡ suc n * q → p ≡ q
same_places n p q e =
    le_antisymm (le_of_mul-le-mul_left {k = suc n} (omega arith) (omega arith)) (le_of_mul-le-mul_left {k = suc n} (omega arith) (omega arith))

pub flat_same : (p q : ℕ) (cs es ds ns : List ℕ) → length es ≡ length cs * p
    → length ns ≡ length ds * q → cs ≡ ds → es ≡ ns → terms_of p cs es ≡ terms_of q ds ns
flat_same p q [] es ds ns h k s t = rw (← s) refl
flat_same p q (c ∷ cs) es ds ns h k s t =
    let a : suc (length cs) * p ≡ suc (length cs) * q = sym h ∙ (ap length t ∙ (k ∙ ap (λ l. length l * q) (sym s))) in
    let e : p ≡ q = same_places (length cs) p q a in
    rw (← s, ← t) (ap (λ n. terms_of n (c ∷ cs) es) e)

pub flat_parts : (p q : ℕ) (cs es ds ns : List ℕ) → length es ≡ length cs * p → length ns ≡ length ds * q
    → terms_of p cs es ≡ terms_of q ds ns → (cs ≡ ds) × (es ≡ ns)
flat_parts p q [] es [] ns h k e =
    let a : es ≡ [] = nil_from_length es (omega arith) in
    let b : ns ≡ [] = nil_from_length ns (omega arith) in
    (refl, a ∙ sym b)
flat_parts p q [] es (d ∷ ds) ns h k e = absurd (cc)
flat_parts p q (c ∷ cs) es [] ns h k e = absurd (cc)
flat_parts p q (c ∷ cs) es (d ∷ ds) ns h k e =
    let t : term c (take p es) ≡ term d (take q ns) = cc in
    let r : terms_of p cs (drop p es) ≡ terms_of q ds (drop q ns) = cc in
    let ih = flat_parts p q cs (drop p es) ds (drop q ns) (first_fits p (length cs) es h).1 (first_fits q (length ds) ns k).1 r in
    let a : c ≡ d = ap (λ (x : Term). x.coefficient) t in
    let b : take p es ≡ take q ns = ap (λ (x : Term). x.exponents) t in
    (cc (a, ih.0), cc (b, ih.1, take-append-drop p es, take-append-drop q ns))

-- the two lists of a list of terms

pub coefficients_are : (p : ℕ) (cs es : List ℕ) (f : List Term) → terms_of p cs es ≡ f → cs ≡ coefficients_of f
coefficients_are p cs es f v = here p cs es ∙ ap coefficients_of v
  where
    here : (p : ℕ) (cs es : List ℕ) → cs ≡ coefficients_of (terms_of p cs es)
    here p [] es = refl
    here p (c ∷ cs) es = ap (λ k. c ∷ k) (here p cs (drop p es))

pub exponents_are : (p : ℕ) (cs es : List ℕ) (f : List Term) → terms_of p cs es ≡ f → length es ≡ length cs * p → es ≡ exponents_of f
exponents_are p cs es f v h = here p cs es h ∙ ap exponents_of v
  where
    here : (p : ℕ) (cs es : List ℕ) → length es ≡ length cs * p → es ≡ exponents_of (terms_of p cs es)
    here p [] [] h = refl
    here p [] (e ∷ es) h = absurd (omega arith)
    here p (c ∷ cs) es h = sym (take-append-drop p es) ∙ ap (λ k. take p es ++ k) (here p cs (drop p es) (first_fits p (length cs) es h).1)
