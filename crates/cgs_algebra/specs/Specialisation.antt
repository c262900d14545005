-- Polynomials and ideals at a point of the parameters (Weispfenning 1992; Kapur, Sun, Wang 2010).
use Rattle.std.specs.Prelude.{ℕ, ◌≡◌, ◌<◌, List, map}
use Rattle.std.specs.List.{AllByRecursion}
use Rattle.cgs_poly.specs.Ring.{Ring}
use Rattle.cgs_poly.specs.Polynomial.{Term, IsOfRing, IsCanonical, SameCoefficients}
use Rattle.cgs_poly.specs.Parameters.{HasNoVariables, value_at, variables_ring, specialised}
use Rattle.cgs_algebra.specs.Combination.{IsMember}

-- each polynomial with its parameters replaced by a point's numbers
abbrev pub specialised_list : Ring → List ℕ → List (List Term) → List (List Term)
specialised_list ring a F = map (specialised ring a) F

-- a polynomial of the ring in the parameters alone
pub record IsParametric (ring : Ring) (f : List Term) : Type 0 where
  pub canonical : IsCanonical ring f
  pub free : HasNoVariables ring f

-- each has the value 0 at the point
abbrev pub AllVanish : Ring → List ℕ → List (List Term) → Type 0
AllVanish ring a E = AllByRecursion (λ f. value_at ring a f ≡ 0) E

-- none has
abbrev pub NoneVanishes : Ring → List ℕ → List (List Term) → Type 0
NoneVanishes ring a N = AllByRecursion (λ f. ¬ (value_at ring a f ≡ 0)) N

-- a polynomial of the ideal of F that becomes g at the point
pub record HasLift (ring : Ring) (a : List ℕ) (F : List (List Term)) (g : List Term) : Type 0 where
  pub lift : List Term
  pub canonical : IsCanonical ring lift
  pub member : IsMember ring F lift
  pub same : SameCoefficients ring.modulus (specialised ring a lift) g

-- what a member of an ideal becomes is a member of the specialised ideal
abbrev pub MemberSpecialises : Type 0
MemberSpecialises =
    (ring : Ring) (a : List ℕ) (F : List (List Term)) (f : List Term) → 0 < ring.modulus → AllByRecursion (IsCanonical ring) F → IsOfRing ring f
    → IsMember ring F f
    → IsMember (variables_ring ring) (specialised_list ring a F) (specialised ring a f)

-- each member of the specialised ideal comes from a member
abbrev pub MemberLifts : Type 0
MemberLifts =
    (ring : Ring) (a : List ℕ) (F : List (List Term)) (g : List Term) → 0 < ring.modulus → AllByRecursion (IsCanonical ring) F
    → IsMember (variables_ring ring) (specialised_list ring a F) g → HasLift ring a F g
