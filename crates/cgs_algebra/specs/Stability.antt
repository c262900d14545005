-- When a Gröbner basis stays one at a point of the parameters (Kalkbrener 1997; Kapur, Sun, Wang 2010, theorem 4.3).
use Rattle.std.specs.Prelude.{ℕ, ◌≡◌, ◌<◌, cond, IsTrue, List, [], ◌∷◌, ◌++◌, map, Any, AllPairs, Contains}
use Rattle.std.specs.List.{AllByRecursion}
use Rattle.cgs_field.specs.Prime.{IsField, IsModulus}
use Rattle.cgs_exps.specs.Monomial.{divides}
use Rattle.cgs_poly.specs.Ring.{Ring}
use Rattle.cgs_poly.specs.Polynomial.{Term, IsCanonical}
use Rattle.cgs_poly.specs.Parameters.{has_no_variables, lead_x, lc_x, value_at, variables_ring}
use Rattle.cgs_algebra.specs.Combination.{IsMember, SameIdeal}
use Rattle.cgs_algebra.specs.Groebner.{AreMonic, IsGroebnerBasis, IsMinimal}
use Rattle.cgs_algebra.specs.Specialisation.{specialised_list, IsParametric, AllVanish, NoneVanishes}

-- the members in the parameters alone
abbrev pub parametric_members : Ring → List (List Term) → List (List Term)
parametric_members ring [] = []
parametric_members ring (g ∷ G) = cond (has_no_variables ring g) (g ∷ parametric_members ring G) (parametric_members ring G)

-- the members with variables
abbrev pub other_members : Ring → List (List Term) → List (List Term)
other_members ring [] = []
other_members ring (g ∷ G) = cond (has_no_variables ring g) (other_members ring G) (g ∷ other_members ring G)

-- the variables' part of the lead of a member of M divides m
abbrev pub SomeLeadXDivides : Ring → List (List Term) → List ℕ → Type 0
SomeLeadXDivides ring M m = Any (λ g. IsTrue (divides (lead_x ring g) m)) M

-- neither variables' part of a lead divides the other
abbrev pub HaveLeadsXApart : Ring → List Term → List Term → Type 0
HaveLeadsXApart ring f g = ¬ IsTrue (divides (lead_x ring f) (lead_x ring g)) × ¬ IsTrue (divides (lead_x ring g) (lead_x ring f))

-- members of K such that the variables' part of each lead of K is divided by that of one of them, and none of theirs by another's
pub record IsMinimalDicksonBasis (ring : Ring) (M K : List (List Term)) : Type 0 where
  pub members : AllByRecursion (Contains K) M
  pub divided : AllByRecursion (λ g. SomeLeadXDivides ring M (lead_x ring g)) K
  pub apart : AllPairs (HaveLeadsXApart ring) M

-- a Gröbner basis generates the ideal
abbrev pub GroebnerGenerates : Type 0
GroebnerGenerates =
    (ring : Ring) (F G : List (List Term)) → IsField ring.modulus → AllByRecursion (IsCanonical ring) F → IsGroebnerBasis ring G F → SameIdeal ring G F

-- where the parametric members of a monic Gröbner basis are 0, so is each parametric member of the ideal
abbrev pub ParametricMembersVanish : Type 0
ParametricMembersVanish =
    (ring : Ring) (a : List ℕ) (F G : List (List Term)) (f : List Term) → 0 < ring.modulus → AreMonic ring G → IsGroebnerBasis ring G F
    → AllVanish ring a (parametric_members ring G) → IsParametric ring f → IsMember ring F f → value_at ring a f ≡ 0

-- where the parametric members of a monic Gröbner basis are 0, so are the parametric generators
abbrev pub ConditionsVanish : Type 0
ConditionsVanish =
    (ring : Ring) (a : List ℕ) (F E G : List (List Term)) → 0 < ring.modulus → AllByRecursion (IsParametric ring) E → AreMonic ring G
    → IsGroebnerBasis ring G (F ++ E)
    → AllVanish ring a (parametric_members ring G) → AllVanish ring a E

-- where moreover no leading coefficient of a minimal Dickson basis of the others is 0, that becomes a minimal Gröbner basis
abbrev pub Stability : Type 0
Stability =
    (ring : Ring) (a : List ℕ) (F E G M : List (List Term)) → IsModulus ring.modulus → AllByRecursion (IsCanonical ring) F
    → AllByRecursion (IsParametric ring) E
    → AreMonic ring G → IsGroebnerBasis ring G (F ++ E) → IsMinimalDicksonBasis ring M (other_members ring G)
    → AllVanish ring a (parametric_members ring G) → NoneVanishes ring a (map (lc_x ring) M)
    → IsMinimal (variables_ring ring) (specialised_list ring a M) (specialised_list ring a F)
