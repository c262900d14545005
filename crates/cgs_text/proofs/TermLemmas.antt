-- Products one after the other, and the terms that are gathered of them.
use Rattle.std.proofs.Common.{◌≡◌, ℕ, zero, suc, ◌-◌, ◌<◌, ◌≤◌, List, [], ◌∷◌, ◌++◌, length, take, replicate, Some, None, Result, Ok, Err, refl, sym, ap, ◌∙◌}
use Rattle.std.proofs.Common.{arith, append_assoc}
use Rattle.std.specs.Prelude.{sum}
use Rattle.std.specs.List.{AllByRecursion}
use Rattle.std.proofs.lemmas.List.{length-replicate}
use Rattle.cgs_list.specs.Results.{mapped, IsFault}
use Rattle.cgs_field.proofs.PrimeLemmas.{modulus_prime}
use Rattle.cgs_poly.specs.Ring.{Ring}
use Rattle.cgs_poly.specs.Draft.{HaveLength}
use Rattle.cgs_poly.specs.Polynomial.{Term, term, places, IsRing}
use Rattle.cgs_tokens.specs.declared.lexeme.Lexeme.{Lexeme as Read}
use Rattle.cgs_tokens.specs.declared.lexeme.Lexeme.TheVariants as read
use Rattle.cgs_tokens.specs.Lexemes.{Lexeme, name, number, plus, minus, times, power, opening, closing, equals, seen}
use Rattle.cgs_problem.specs.declared.fault.TextKind.{TextKind}
use Rattle.cgs_problem.specs.declared.fault.TextKind.TheVariants as fault
use Rattle.cgs_problem.specs.Sums.{Reader, product, follow, with_term, terms_said}
use Rattle.cgs_text.specs.declared.refusal.LineRefused.{LineRefused}
use Rattle.cgs_text.specs.declared.refusal.LineRefused.TheVariants.{Kind, OutOfMemory}
use Rattle.cgs_text.specs.Factors.{factor}
use Rattle.cgs_text.specs.Refusals.{kind_told}
use Rattle.cgs_text.specs.Scopes.{IsReader, IsProduct, HasTermsFor, signed_one}
use Rattle.cgs_text.proofs.FactorLemmas.{after_factor, by_factor}

-- terms that were read, before what is still read
abbrev pub with_front : List Term → Result (List Term) TextKind → Result (List Term) TextKind
with_front front said = mapped (λ terms. front ++ terms) said

regroup : (front : List Term) (t : Term) (rest : Result (List Term) TextKind) → with_front front (with_term t rest) ≡ with_front (front ++ t ∷ []) rest
regroup front t (Ok terms) = ap (λ (f : List Term). Ok f) (sym (append_assoc front (t ∷ []) terms))
regroup front t (Err kind) = refl

pub none_before : (said : Result (List Term) TextKind) → with_front [] said ≡ said
none_before (Ok f) = refl
none_before (Err kind) = refl

-- the empty product with a number
abbrev pub start : Reader → ℕ → Term
start reader c = term c (replicate (places reader.ring) 0)

-- a factor was refused
pub refused_there : (reader : Reader) (front : List Term) (t : Term) (lexemes : List Lexeme) (total : Result (List Term) TextKind) (refused : LineRefused)
    → IsFault (kind_told refused) (factor reader t lexemes) → with_front front (product reader t lexemes) ≡ total → IsFault (kind_told refused) total
refused_there reader front t lexemes total (Kind kind) h so_far =
    sym so_far ∙ ap (with_front front) (by_factor reader t lexemes ∙ ap (after_factor reader) h)
refused_there reader front t lexemes total OutOfMemory h so_far = tt

-- what a call left before it, where a factor was read
pub record Follows (reader : Reader) (front : List Term) (t : Term) (after : List Lexeme) (total : Result (List Term) TextKind) : Type 0 where
  pub so_far : with_front front (follow reader t after) ≡ total

pub follows : (reader : Reader) (front : List Term) (t next : Term) (lexemes after : List Lexeme) (total : Result (List Term) TextKind)
    → factor reader t lexemes ≡ Ok (next, after) → with_front front (product reader t lexemes) ≡ total → Follows reader front next after total
follows reader front t next lexemes after total e so_far = record {
  so_far = sym (ap (with_front front) (by_factor reader t lexemes ∙ ap (after_factor reader) e)) ∙ so_far;
}

module _ (reader : Reader) (front : List Term) (t : Term) (after : List Lexeme) (total : Result (List Term) TextKind)
    (f : Follows reader front t after total) where
  next_is : (next : Result (List Term) TextKind) → follow reader t after ≡ next → with_front front next ≡ total
  next_is next e = sym (ap (with_front front) e) ∙ f.so_far

  -- the product goes on
  pub goes_on : (others : List Lexeme) → after ≡ times ∷ others → with_front front (product reader t others) ≡ total
  unfolding follow
  goes_on others e = next_is (product reader t others) (rw e refl)

  -- the next product begins
  pub begins : (sign : Lexeme) (c : ℕ) (others : List Lexeme) → after ≡ sign ∷ others → Some c ≡ signed_one reader.ring.modulus sign
      → with_front (front ++ t ∷ []) (product reader (start reader c) others) ≡ total
  unfolding follow
  begins plus c others e k = let one : c ≡ 1 = cc in
      rw one (sym (regroup front t _) ∙ next_is (with_term t (product reader (start reader 1) others)) (rw e refl))
  begins minus c others e k = let one : c ≡ reader.ring.modulus - 1 = cc in
      rw one (sym (regroup front t _) ∙ next_is (with_term t (product reader (start reader (reader.ring.modulus - 1)) others)) (rw e refl))
  begins (name word) c others e k = absurd (cc)
  begins (number n) c others e k = absurd (cc)
  begins times c others e k = absurd (cc)
  begins power c others e k = absurd (cc)
  begins opening c others e k = absurd (cc)
  begins closing c others e k = absurd (cc)
  begins equals c others e k = absurd (cc)

  -- no other token may follow
  pub cannot_follow : (sign : Read) (others : List Lexeme) → after ≡ seen sign ∷ others → (sign ≡ read.Times → ⊥)
      → None ≡ signed_one reader.ring.modulus (seen sign) → total ≡ Err fault.Syntax
  unfolding follow
  cannot_follow (read.Name word) others e other k = sym (next_is (Err fault.Syntax) (rw e refl))
  cannot_follow (read.Number n) others e other k = sym (next_is (Err fault.Syntax) (rw e refl))
  cannot_follow read.Power others e other k = sym (next_is (Err fault.Syntax) (rw e refl))
  cannot_follow read.Open others e other k = sym (next_is (Err fault.Syntax) (rw e refl))
  cannot_follow read.Close others e other k = sym (next_is (Err fault.Syntax) (rw e refl))
  cannot_follow read.Equal others e other k = sym (next_is (Err fault.Syntax) (rw e refl))
  cannot_follow read.Times others e other k = absurd (other refl)
  cannot_follow read.Plus others e other k = absurd (cc)
  cannot_follow read.Minus others e other k = absurd (cc)

  -- the line ends
  pub ends : after ≡ [] → total ≡ Ok (front ++ t ∷ [])
  unfolding follow
  ends e = sym (next_is (Ok (t ∷ [])) (rw e refl))

-- a line without lexemes has no product
pub nothing_said : (reader : Reader) (lexemes : List Lexeme) → lexemes ≡ [] → terms_said reader lexemes ≡ Err fault.Syntax
unfolding product
nothing_said reader lexemes e = rw e refl

-- products within the limits

no_degree : (n : ℕ) → sum (replicate {A = ℕ} n 0) ≡ 0
no_degree zero = refl
no_degree (suc n) = no_degree n

take_zeros : (k n : ℕ) → k ≤ n → take k (replicate {A = ℕ} n 0) ≡ replicate {A = ℕ} k 0
take_zeros zero n le = refl
take_zeros (suc k) zero le = absurd (omega arith)
take_zeros (suc k) (suc n) le = ap (λ (m : List ℕ). 0 ∷ m) (take_zeros k n (omega arith))

pub is_start : (reader : Reader) (c : ℕ) → IsReader reader → c < reader.ring.modulus → IsProduct reader (start reader c)
is_start reader c h below = record {
  below = below;
  places = length-replicate (places reader.ring) 0;
  monomial = record {
    low = omega (arith, no_degree (places reader.ring));
    free = take_zeros reader.barred (places reader.ring) h.barred;
  };
}

pub signed_below : (ring : Ring) (c : ℕ) (sign : Lexeme) → IsRing ring → Some c ≡ signed_one ring.modulus sign → c < ring.modulus
signed_below ring c plus h e =
    let above = (modulus_prime ring.modulus h.modulus).above_one in let one : c ≡ 1 = cc in omega arith
signed_below ring c minus h e =
    let above = (modulus_prime ring.modulus h.modulus).above_one in let one : c ≡ ring.modulus - 1 = cc in omega arith
signed_below ring c (name word) h e = absurd (cc)
signed_below ring c (number n) h e = absurd (cc)
signed_below ring c times h e = absurd (cc)
signed_below ring c power h e = absurd (cc)
signed_below ring c opening h e = absurd (cc)
signed_below ring c closing h e = absurd (cc)
signed_below ring c equals h e = absurd (cc)

-- gathering

pub still_products : (reader : Reader) (f : List Term) (t : Term) → AllByRecursion (IsProduct reader) f → IsProduct reader t
    → AllByRecursion (IsProduct reader) (f ++ t ∷ [])
still_products reader [] t h p = (p, tt)
still_products reader (x ∷ f) t h p = (h.0, still_products reader f t h.1 p)

-- the monomials of products are as long as that of another one
pub as_long : (reader : Reader) (f : List Term) (t : Term) → AllByRecursion (IsProduct reader) f → IsProduct reader t → HaveLength (length t.exponents) f
as_long reader [] t h p = tt
as_long reader (x ∷ f) t h p = (h.0.places ∙ sym p.places, as_long reader f t h.1 p)

pub have_terms : (reader : Reader) (f : List Term) → AllByRecursion (IsProduct reader) f → HasTermsFor reader f
have_terms reader [] h = tt
have_terms reader (t ∷ f) h = (h.0.monomial, have_terms reader f h.1)
