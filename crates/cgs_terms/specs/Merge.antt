-- One step of a merge of two sorted lists: what goes before, and what becomes of a term of the second list.
use Rattle.std.specs.Prelude.{ℕ, ◌≡◌, ◌≤◌, ◌<◌, ◌+◌, ◌-◌, ◌^◌, cond, Option, Some, None, List, [], ◌∷◌, length, take, drop}
use Rattle.std.specs.List.{AllByRecursion}
use Rattle.std.specs.declared.cmp.Ordering.TheVariants.{Greater}
use Rattle.std.specs.Ordering.{is_eq, nat_cmp}
use Rattle.std.specs.Cmp.Lexicographic.{slice_cmp}
use Rattle.cgs_order.specs.declared.block.BlockOrder.{BlockOrder}
use Rattle.cgs_order.specs.TermOrder.{compared}
use Rattle.cgs_exps.specs.Monomial.{degree}
use Rattle.cgs_field.specs.Prime.{IsModulus}
use Rattle.cgs_terms.specs.declared.ring.Ring.{Ring}
use Rattle.cgs_terms.specs.declared.draft.Draft.{Draft}
use Rattle.cgs_terms.specs.Polynomial.{Term, term, places, IsCanonical, kept, greatest_degree}
use Rattle.cgs_terms.specs.Draft.{terms_in, IsFlat, HasRoom}

-- each monomial is above m
abbrev pub AreAbove : BlockOrder → List ℕ → List Term → Type 0
AreAbove order m f = AllByRecursion (λ x. compared order x.exponents m ≡ Greater) f

-- the first monomial is not above m
abbrev pub StartsNotAbove : BlockOrder → List ℕ → List Term → Type 0
StartsNotAbove order m [] = Unit {0}
StartsNotAbove order m (x ∷ f) = compared order x.exponents m ≡ Greater → ⊥

-- the coefficient of the first term, if its monomial is m
abbrev pub first_at : List ℕ → List Term → Option ℕ
first_at m [] = None
first_at m (x ∷ f) = cond (is_eq (slice_cmp nat_cmp x.exponents m)) (Some x.coefficient) None

-- how many terms have such a coefficient: 1 or 0
abbrev pub count_met : Option ℕ → ℕ
count_met None = 0
count_met (Some d) = 1

-- the terms of f from one place up to another are above m, and the term there is not, whose coefficient is `met` if its monomial is m
pub record EndsAbove (order : BlockOrder) (m : List ℕ) (f : List Term) (start end : ℕ) (met : Option ℕ) : Type 0 where
  pub from : start ≤ end
  pub within : end + count_met met ≤ length f
  pub few : length f < 2 ^ 64
  pub above : AreAbove order m (take (end - start) (drop start f))
  pub stops : StartsNotAbove order m (drop end f)
  pub found : met ≡ first_at m (drop end f)

-- c*m together with a term at m of that coefficient, if there is one
abbrev pub joined : Ring → ℕ → List ℕ → Option ℕ → List Term
joined ring c m None = term c m ∷ []
joined ring c m (Some d) = kept ring (d + c) m []

-- each term with its coefficient and its monomial changed
abbrev pub changed : (ℕ → ℕ) → (List ℕ → List ℕ) → List Term → List Term
changed a b [] = []
changed a b (x ∷ f) = term (a x.coefficient) (b x.exponents) ∷ changed a b f

-- each term is so
abbrev pub EachTerm : (ℕ → List ℕ → Type 0) → List Term → Type 0
EachTerm P f = AllByRecursion (λ x. P x.coefficient x.exponents) f

-- two monomials of as many places, with a product of a low degree
pub record CanMultiply (m n : List ℕ) : Type 0 where
  pub places : length m ≡ length n
  pub few : length n ≤ 17
  pub low : degree m + degree n ≤ greatest_degree

-- a draft without terms has room for two canonical lists, the second of which can be multiplied
pub record CanMerge (ring : Ring) (draft : Draft) (may : ℕ → List ℕ → Type 0) (times : ℕ → ℕ) (moved : List ℕ → List ℕ) (f g : List Term) : Type 0 where
  pub empty : terms_in draft ≡ []
  pub flat : IsFlat draft
  pub places : draft.places ≡ places ring
  pub room : HasRoom draft (length f + length g)
  pub modulus : IsModulus ring.modulus
  pub first : IsCanonical ring f
  pub terms : IsCanonical ring g
  pub each : EachTerm may g
  pub second : IsCanonical ring (changed times moved g)
