-- A draft with further terms at its end.
use Rattle.std.proofs.Common.{ℕ, ◌≡◌, ◌≤◌, ◌+◌, ◌-◌, ◌⊎◌, inl, inr, ◌*◌, List, [], ◌∷◌, ◌++◌, length, take}
use Rattle.std.proofs.Common.{drop, refl, sym, ap, ◌∙◌, subst, arith, append_assoc}
use Rattle.std.specs.Prelude.{vec_len, vec_capacity}
use Rattle.std.proofs.Math.Nat.{mul-le-mul_right, add-mul}
use Rattle.std.proofs.lemmas.List.{length-append, length-take, length-drop, take_all, nil_from_length}
use Rattle.cgs_terms.specs.declared.draft.Draft.{Draft}
use Rattle.cgs_terms.specs.Polynomial.{Term, term}
use Rattle.cgs_terms.specs.Flat.{terms_of}
use Rattle.cgs_terms.specs.Draft.{terms_in, IsFlat, HasRoom, Appended, HaveLength}
use Rattle.cgs_terms.proofs.FlatLemmas.{FlatFor, terms_append, terms_take, terms_drop, take_flat, drop_flat, count_of}

pub appended_both : {a b c : Draft} {f g : List Term} → Appended a b f → Appended b c g → Appended a c (f ++ g)
appended_both {a} {b} {c} {f} {g} h k = record {
  flat = k.flat;
  places = k.places ∙ h.places;
  terms = k.terms ∙ (ap (λ e. e ++ g) h.terms ∙ append_assoc (terms_in a) f g);
}

-- further coefficients with their exponents
pub appended : (a b : Draft) (ds ns : List ℕ) → IsFlat a → length ns ≡ length ds * a.places → b.places ≡ a.places
    → b.coefficients.items ≡ a.coefficients.items ++ ds → b.exponents.items ≡ a.exponents.items ++ ns → Appended a b (terms_of a.places ds ns)
appended a b ds ns h k p cs es =
    record {
      flat = rw (cs, es, p, length-append a.coefficients.items ds, length-append a.exponents.items ns) (omega arith);
      places = p;
      terms = rw (cs, es, p) (terms_append a.places a.coefficients.items ds a.exponents.items ns h);
    }

pub pushed : (a b : Draft) (c : ℕ) (m : List ℕ) → IsFlat a → length m ≡ a.places → b.places ≡ a.places
    → b.coefficients.items ≡ a.coefficients.items ++ c ∷ [] → b.exponents.items ≡ a.exponents.items ++ m → Appended a b (term c m ∷ [])
pushed a b c m h k p cs es =
    let t : take a.places m ≡ m = take_all a.places m (omega arith) in
    subst (λ n. Appended a b (term c n ∷ [])) t (appended a b (c ∷ []) m h (omega arith) p cs es)

-- room

pub less_room : (d : Draft) (m n : ℕ) → m ≤ n → HasRoom d n → HasRoom d m
less_room d m n l h = record {
  coefficients = omega (arith, l, h.coefficients);
  exponents = omega (arith, mul-le-mul_right d.places l, h.exponents);
}

-- the numbers of coefficients and exponents of terms of one length
pub record SoMany (p : ℕ) (cs es : List ℕ) (f : List Term) : Type 0 where
  pub coefficients : length cs ≡ length f
  pub exponents : length es ≡ length f * p

-- two flat lists of the same monomials have the same number of places, if there is a monomial
places_same : (p q : ℕ) (cs es : List ℕ) → length es ≡ length cs * q → HaveLength p (terms_of q cs es) → (cs ≡ []) ⊎ (q ≡ p)
places_same p q [] es h k = inl refl
places_same p q (c ∷ cs) es h k = inr (omega (arith, length-take q es, k.0))

pub extended : (a b : Draft) (q from to : ℕ) (cs es : List ℕ) (f : List Term) → IsFlat a → terms_of q cs es ≡ f
    → length es ≡ length cs * q → HaveLength a.places f → from ≤ to → to ≤ length f → b.places ≡ a.places
    → b.coefficients.items ≡ a.coefficients.items ++ take (to - from) (drop from cs)
    → b.exponents.items ≡ a.exponents.items ++ take ((to - from) * q) (drop (from * q) es) → Appended a b (take (to - from) (drop from f))
extended a b q from to cs es f h v k l r w p x y =
    elim (places_same a.places q cs es k (subst (λ g. HaveLength a.places g) (sym v) l)) [ inl e ↦ nothing e | inr e ↦ some e ]
  where
    some : q ≡ a.places → Appended a b (take (to - from) (drop from f))
    some e =
        let n : ℕ = to - from in
        let ds : List ℕ = take (to - from) (drop from cs) in
        let ns : List ℕ = take ((to - from) * q) (drop (from * q) es) in
        let s : length ns ≡ length ds * q = take_flat q (to - from) (drop from cs) (drop (from * q) es) (drop_flat q from cs es k) in
        let t : terms_of q ds ns ≡ take (to - from) (drop from f) =
        terms_take q (to - from) (drop from cs) (drop (from * q) es) (drop_flat q from cs es k)
        ∙ ap (λ g. take (to - from) g) (terms_drop q from cs es ∙ ap (λ g. drop from g) v) in
        subst (λ g. Appended a b g) t
        (subst (λ m. Appended a b (terms_of m ds ns)) (sym e) (appended a b ds ns h (subst (λ m. length ns ≡ length ds * m) e s) p x y))

    nothing : cs ≡ [] → Appended a b (take (to - from) (drop from f))
    nothing e =
        let n = count_of q cs es f v in
        let z : length cs ≡ 0 = ap length e in
        let ds : List ℕ = take (to - from) (drop from cs) in
        let ns : List ℕ = take ((to - from) * q) (drop (from * q) es) in
        let none : ds ≡ [] = nil_from_length ds (omega (arith, length-take (to - from) (drop from cs), length-drop from cs)) in
        let o : length es ≡ 0 = omega (arith, rw z at k) in
        let empty : ns ≡ [] = nil_from_length ns (omega (arith, length-take ((to - from) * q) (drop (from * q) es), length-drop (from * q) es)) in
        let g : take (to - from) (drop from f) ≡ [] =
        nil_from_length (take (to - from) (drop from f)) (omega (arith, length-take (to - from) (drop from f), length-drop from f)) in
        subst (λ g. Appended a b g) (sym g)
        (appended a b [] [] h (omega arith) p (x ∙ ap (λ l. a.coefficients.items ++ l) none) (y ∙ ap (λ l. a.exponents.items ++ l) empty))

-- flat lists with as many exponents a term as a further monomial has
pub flat_for : (p q : ℕ) (cs es : List ℕ) (f : List Term) → terms_of q cs es ≡ f → length es ≡ length cs * q → HaveLength p f → FlatFor p cs es f
flat_for p q cs es f v k l = elim (places_same p q cs es k (subst (λ g. HaveLength p g) (sym v) l)) [ inl e ↦ nothing e | inr e ↦ some e ]
  where
    nothing : cs ≡ [] → FlatFor p cs es f
    nothing e =
        let z : length cs ≡ 0 = ap length e in
        let o : length es ≡ 0 = omega (arith, rw z at k) in
        record { flat = rw z (omega arith); terms = cc (ap (λ n. terms_of p n es) e, ap (λ n. terms_of q n es) e) }

    some : q ≡ p → FlatFor p cs es f
    some e = record { flat = subst (λ n. length es ≡ length cs * n) e k; terms = subst (λ n. terms_of n cs es ≡ f) e v }

pub so_many : (p q : ℕ) (cs es : List ℕ) (f : List Term) → terms_of q cs es ≡ f → length es ≡ length cs * q → HaveLength p f → SoMany p cs es f
so_many p q cs es f v k l =
    let n : length cs ≡ length f = sym (count_of q cs es f v) in
    record { coefficients = n; exponents = (flat_for p q cs es f v k l).flat ∙ ap (λ n. n * p) n }

pub room_for_both : (d : Draft) (a b : ℕ) → vec_len d.coefficients + (a + b) ≤ vec_capacity d.coefficients
    → vec_len d.exponents + (a * d.places + b * d.places) ≤ vec_capacity d.exponents → HasRoom d (a + b)
room_for_both d a b h k = record { coefficients = h; exponents = omega (arith, add-mul a b d.places, k) }

pub pushed_at_end : (q c : ℕ) (cs es m : List ℕ) (f : List Term) → terms_of q cs es ≡ f → length es ≡ length cs * q → HaveLength (length m) f
    → FlatFor (length m) (cs ++ c ∷ []) (es ++ m) (f ++ term c m ∷ [])
pushed_at_end q c cs es m f v k l =
    let h : FlatFor (length m) cs es f = flat_for (length m) q cs es f v k l in
    let t : take (length m) m ≡ m = take_all (length m) m (omega arith) in
    record {
      flat = rw (length-append cs (c ∷ []), length-append es m, h.flat) (omega arith);
      terms = terms_append (length m) cs (c ∷ []) es m h.flat ∙ cc (h.terms, t);
    }
