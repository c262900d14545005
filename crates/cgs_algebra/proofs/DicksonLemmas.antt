-- The members of a list with variables, and what a minimal Dickson basis of them has of the list.
use Rattle.std.proofs.Common.{ℕ, suc, zero, ◌≡◌, ◌<◌, Bool, true, false, cond, List, [], ◌∷◌, length, get_or, refl, ◌∙◌, subst, arith}
use Rattle.std.specs.List.{AllByRecursion, Contains}
use Rattle.cgs_list.proofs.ListLemmas.{all_at_place}
use Rattle.cgs_exps.specs.Monomial.{divides}
use Rattle.cgs_poly.specs.Ring.{Ring}
use Rattle.cgs_poly.specs.Polynomial.{Term}
use Rattle.cgs_poly.specs.Parameters.{has_no_variables, HasNoVariables, lead_x}
use Rattle.cgs_algebra.specs.Stability.{parametric_members, other_members, SomeLeadXDivides, IsMinimalDicksonBasis}
use Rattle.cgs_poly.proofs.ParameterLemmas.{tested_free, free_tested}
use Rattle.cgs_algebra.proofs.PlaceLemmas.{place_of_member, lead_x_place}

-- a place of the second list has what stands at a place of the first
abbrev pub FoundIn : List (List Term) → List Term → Type 0
FoundIn G f = (i : ℕ) × (i < length G) × (get_or G i [] ≡ f)

found_later : (G : List (List Term)) (g f : List Term) → FoundIn G f → FoundIn (g ∷ G) f
found_later G g f h = (suc h.0, omega (arith, h.1), h.2)

-- a member with variables is a member, and has them
pub other_found : (ring : Ring) (G : List (List Term)) (k : ℕ) → k < length (other_members ring G)
    → FoundIn G (get_or (other_members ring G) k []) × (HasNoVariables ring (get_or (other_members ring G) k []) → ⊥)
other_found ring [] k l = absurd (omega arith)
other_found ring (g ∷ G) k l = by_test (has_no_variables ring g) refl k l (other_found ring G)
  where
    by_test : (b : Bool) → has_no_variables ring g ≡ b → (k : ℕ) → k < length (cond b (other_members ring G) (g ∷ other_members ring G))
        → ((k : ℕ) → k < length (other_members ring G) → FoundIn G (get_or (other_members ring G) k [])
        × (HasNoVariables ring (get_or (other_members ring G) k []) → ⊥))
        → FoundIn (g ∷ G) (get_or (cond b (other_members ring G) (g ∷ other_members ring G)) k [])
        × (HasNoVariables ring (get_or (cond b (other_members ring G) (g ∷ other_members ring G)) k []) → ⊥)
    by_test true e k l ih = let h = ih k l in (found_later G g (get_or (other_members ring G) k []) h.0, h.1)
    by_test false e zero l ih = ((0, omega arith, refl), λ n. cc (e, free_tested ring g n))
    by_test false e (suc k) l ih = let h = ih k (omega arith) in (found_later G g (get_or (other_members ring G) k []) h.0, h.1)

-- each member with variables is there
pub found_other : (ring : Ring) (G : List (List Term)) (i : ℕ) → i < length G → (HasNoVariables ring (get_or G i []) → ⊥)
    → FoundIn (other_members ring G) (get_or G i [])
found_other ring [] i l n = absurd (omega arith)
found_other ring (g ∷ G) i l n = by_test (has_no_variables ring g) refl i l n (found_other ring G)
  where
    by_test : (b : Bool) → has_no_variables ring g ≡ b → (i : ℕ) → i < suc (length G) → (HasNoVariables ring (get_or (g ∷ G) i []) → ⊥)
        → ((i : ℕ) → i < length G → (HasNoVariables ring (get_or G i []) → ⊥) → FoundIn (other_members ring G) (get_or G i []))
        → FoundIn (cond b (other_members ring G) (g ∷ other_members ring G)) (get_or (g ∷ G) i [])
    by_test true e zero l n ih = absurd (n (tested_free ring g e))
    by_test true e (suc i) l n ih = ih i (omega arith) n
    by_test false e zero l n ih = (0, omega arith, refl)
    by_test false e (suc i) l n ih = found_later (other_members ring G) g (get_or G i []) (ih i (omega arith) n)

module _ (ring : Ring) (M G : List (List Term)) (dickson : IsMinimalDicksonBasis ring M (other_members ring G)) where
  -- its members are members of G with variables
  pub dickson_found : (j : ℕ) → j < length M → FoundIn G (get_or M j [])
  dickson_found j l =
      let k = place_of_member (other_members ring G) (get_or M j []) (all_at_place (Contains (other_members ring G)) [] M dickson.members j l) in
      let h = (other_found ring G k.0 k.1).0 in
      (h.0, h.1, h.2 ∙ k.2)

  -- the variables' part of each lead is divided by that of one of its members
  pub dickson_divides : (i : ℕ) → i < length G → (HasNoVariables ring (get_or G i []) → ⊥)
      → (j : ℕ) × (j < length M) × (divides (lead_x ring (get_or M j [])) (lead_x ring (get_or G i [])) ≡ true)
  dickson_divides i l n =
      let k = found_other ring G i l n in
      let some = all_at_place (λ g. SomeLeadXDivides ring M (lead_x ring g)) [] (other_members ring G) dickson.divided k.0 k.1 in
      let j = lead_x_place ring M (lead_x ring (get_or (other_members ring G) k.0 [])) some in
      (j.0, j.1, subst (λ f. divides (lead_x ring (get_or M j.0 [])) (lead_x ring f) ≡ true) k.2 j.2)

-- each member in the parameters alone is there
pub found_parametric : (ring : Ring) (G : List (List Term)) (i : ℕ) → i < length G → HasNoVariables ring (get_or G i [])
    → FoundIn (parametric_members ring G) (get_or G i [])
found_parametric ring [] i l n = absurd (omega arith)
found_parametric ring (g ∷ G) i l n = by_test (has_no_variables ring g) refl i l n (found_parametric ring G)
  where
    by_test : (b : Bool) → has_no_variables ring g ≡ b → (i : ℕ) → i < suc (length G) → HasNoVariables ring (get_or (g ∷ G) i [])
        → ((i : ℕ) → i < length G → HasNoVariables ring (get_or G i []) → FoundIn (parametric_members ring G) (get_or G i []))
        → FoundIn (cond b (g ∷ parametric_members ring G) (parametric_members ring G)) (get_or (g ∷ G) i [])
    by_test false e zero l n ih = absurd (cc (e, free_tested ring g n))
    by_test false e (suc i) l n ih = ih i (omega arith) n
    by_test true e zero l n ih = (0, omega arith, refl)
    by_test true e (suc i) l n ih = found_later (parametric_members ring G) g (get_or G i []) (ih i (omega arith) n)

-- what holds of each member holds of each in the parameters alone, and of each other

pub parametric_each : (ring : Ring) (P : List Term → Type 0) (G : List (List Term)) → AllByRecursion P G
    → AllByRecursion (λ g. P g × HasNoVariables ring g) (parametric_members ring G)
parametric_each ring P [] h = tt
parametric_each ring P (g ∷ G) h = by_test (has_no_variables ring g) refl (parametric_each ring P G h.1)
  where
    by_test : (b : Bool) → has_no_variables ring g ≡ b → AllByRecursion (λ g. P g × HasNoVariables ring g) (parametric_members ring G)
        → AllByRecursion (λ g. P g × HasNoVariables ring g) (cond b (g ∷ parametric_members ring G) (parametric_members ring G))
    by_test true e ih = ((h.0, tested_free ring g e), ih)
    by_test false e ih = ih

pub other_each : (ring : Ring) (P : List Term → Type 0) (G : List (List Term)) → AllByRecursion P G → AllByRecursion P (other_members ring G)
other_each ring P [] h = tt
other_each ring P (g ∷ G) h = by_test (has_no_variables ring g) (other_each ring P G h.1)
  where
    by_test : (b : Bool) → AllByRecursion P (other_members ring G) → AllByRecursion P (cond b (other_members ring G) (g ∷ other_members ring G))
    by_test true ih = ih
    by_test false ih = (h.0, ih)
