-- The emptiness run tells whether the conditions contradict each other.
use Rattle.std.proofs.Common.{ℕ, ◌≡◌, ◌<◌, ◌↔◌, inr, Bool, true, IsTrue, List, [], ◌∷◌, ◌++◌, replicate, refl, sym, ◌∙◌}
use Rattle.std.proofs.Common.{subst, arith}
use Rattle.std.specs.List.{AllByRecursion}
use Rattle.cgs_field.specs.Prime.{IsField}
use Rattle.cgs_field.proofs.PrimeLemmas.{modulus_field}
use Rattle.cgs_poly.specs.Ring.{Ring}
use Rattle.cgs_poly.specs.Polynomial.{one, Term, IsRing, IsOfRing, IsCanonical}
use Rattle.cgs_poly.proofs.CanonicalLemmas.{canonical_of_ring}
use Rattle.cgs_poly.specs.Product.{multiple}
use Rattle.cgs_poly.proofs.RecastLemmas.{recast_is_canonical}
use Rattle.cgs_poly.proofs.OneLemmas.{one_canonical}
use Rattle.cgs_algebra.specs.Combination.{IsMember}
use Rattle.cgs_algebra.specs.Groebner.{IsReduced}
use Rattle.cgs_algebra.proofs.MemberLemmas.{same_member, zero_member, sum_member, generators_inside, member_of_members}
use Rattle.cgs_algebra.proofs.GrowthLemmas.{member_more, last_member, members_of_more}
use Rattle.cgs_algebra.proofs.GenerationLemmas.{basis_generates}
use Rattle.cgs_divide.specs.DivisionRun.{is_too_high}
use Rattle.cgs_algebra.specs.Specialisation.{IsParametric}
use Rattle.cgs_basis.specs.BasisRun.{basis_run}
use Rattle.cgs_basis.proofs.BasisLemmas.{basis_reduced}
use Rattle.cgs_divide.specs.Ending.{ended, followed}
use Rattle.cgs_divide.proofs.EndingLemmas.{ended_same, has_followed, past_degree}
use Rattle.cgs_radical.specs.EmptinessRun.{BasisRun, y_ring, with_y, y_times_less_one, products_remainder, is_one_alone, contradiction_run}
use Rattle.cgs_radical.specs.Laws.{FindsBases, product_of, RunsDecide, EmptyIsContradiction}
use Rattle.cgs_radical.proofs.CongruenceLemmas.{AreCongruent, congruent_back, congruent_member}
use Rattle.cgs_radical.proofs.ProductRunLemmas.{product_of_ring, one_times, products_same, products_canonical}
use Rattle.cgs_radical.proofs.ContradictionLemmas.{one_alone_is_member, y_canonical, y_congruent, one_of_zero}
use Rattle.cgs_list.proofs.ListLemmas.{all_weaker, all_push}

-- lists in the ring with y

y_ring_is_ring : (ring : Ring) → IsRing ring → IsRing (y_ring ring)
y_ring_is_ring ring r = record { modulus = r.modulus; some = omega arith; variables = omega arith; parameters = r.parameters }

pub with_y_canonical : (ring : Ring) (F : List (List Term)) → AllByRecursion (IsParametric ring) F → AllByRecursion (IsCanonical (y_ring ring)) (with_y ring F)
with_y_canonical ring [] h = tt
with_y_canonical ring (f ∷ F) h = (
  recast_is_canonical ring (y_ring ring) f (record { modulus = refl; kind = refl; parameters = refl; variables = inr h.0.free }) h.0.canonical,
  with_y_canonical ring F h.1,
)

pub all_of_ring : (ring : Ring) (F : List (List Term)) → AllByRecursion (IsCanonical ring) F → AllByRecursion (IsOfRing ring) F
all_of_ring ring [] h = tt
all_of_ring ring (f ∷ F) h = (canonical_of_ring ring f h.0, all_of_ring ring F h.1)

module _ (ring : Ring) (field : IsField ring.modulus) (some : ring.variables ≡ 1) (E B : List (List Term))
    (p r : List Term) (canonical : AllByRecursion (IsCanonical ring) E) (reduced : IsReduced ring B E)
    (hp : IsOfRing ring p) (hr : IsOfRing ring r) (same : AreCongruent ring E p r) where
  pos : 0 < ring.modulus
  pos = omega (arith, field.two)

  abbrev z : List Term
  z = y_times_less_one ring r

  abbrev zp : List Term
  zp = y_times_less_one ring p

  z_ring : IsOfRing ring z
  z_ring = canonical_of_ring ring z (y_canonical ring pos some r hr)

  zp_ring : IsOfRing ring zp
  zp_ring = canonical_of_ring ring zp (y_canonical ring pos some p hp)

  e_in_b : AllByRecursion (IsMember ring B) E
  e_in_b =
      all_weaker (IsMember ring E) (IsMember ring B) E (generators_inside ring E pos (all_of_ring ring E canonical))
      (basis_generates ring E B field canonical reduced.minimal.groebner).second

  forth : AreCongruent ring E zp z
  forth = y_congruent ring pos some E p r hp hr same

  back : AreCongruent ring E z zp
  back = congruent_back ring E pos zp z forth

  -- the ideals of B and y*r - 1, and of E and y*p - 1
  from_basis : (f : List Term) → IsMember ring (B ++ z ∷ []) f → IsMember ring (E ++ zp ∷ []) f
  from_basis f m =
      members_of_more ring B z pos (E ++ zp ∷ [])
      (all_weaker (IsMember ring E) (IsMember ring (E ++ zp ∷ [])) B reduced.minimal.groebner.members (member_more ring E (zp ∷ [])))
      (same_member ring (E ++ zp ∷ []) pos back.sum
      (sum_member ring (E ++ zp ∷ []) pos zp back.rest (last_member ring E zp pos zp_ring) (member_more ring E (zp ∷ []) back.rest back.member))) f m

  to_basis : (f : List Term) → IsMember ring (E ++ zp ∷ []) f → IsMember ring (B ++ z ∷ []) f
  to_basis f m =
      members_of_more ring E zp pos (B ++ z ∷ []) (all_weaker (IsMember ring B) (IsMember ring (B ++ z ∷ [])) E e_in_b (member_more ring B (z ∷ [])))
      (same_member ring (B ++ z ∷ []) pos forth.sum (sum_member ring (B ++ z ∷ []) pos z forth.rest (last_member ring B z pos z_ring)
      (member_more ring B (z ∷ []) forth.rest (member_of_members ring E B pos e_in_b forth.rest forth.member)))) f m

  basis_canonical : AllByRecursion (IsCanonical ring) (B ++ z ∷ [])
  basis_canonical = all_push (IsCanonical ring) B z reduced.monic.canonical (y_canonical ring pos some r hr)

module _ (basis : BasisRun) (ring : Ring) (finds : FindsBases basis) (r : IsRing ring) (some : ring.variables ≡ 1) (E B : List (List Term))
    (p : List Term) (canonical : AllByRecursion (IsCanonical ring) E) (reduced : IsReduced ring B E)
    (hp : IsOfRing ring p) where
  abbrev field : IsField ring.modulus
  field = modulus_field ring.modulus r.modulus

  positive : 0 < ring.modulus
  positive = omega (arith, field.two)

  abbrev Contradicted : Type 0
  Contradicted = IsMember ring (E ++ y_times_less_one ring p ∷ []) (one ring)

  ended_by : (q : List Term) (units left : ℕ) (empty : Bool) → IsCanonical ring q → AreCongruent ring E p q
      → contradiction_run basis ring B q units ≡ ended empty left → IsTrue empty ↔ Contradicted
  ended_by [] units left empty h same e =
      let t : true ≡ empty = (ended_same true empty units left e).0 in
      let m = congruent_member ring E positive p [] same (zero_member ring E positive) in
      (λ x. one_of_zero ring positive some E p hp m, λ x. sym t)
  ended_by (x ∷ q) units left empty h same e =
      let hr = canonical_of_ring ring (x ∷ q) h in
      let z : List Term = y_times_less_one ring (x ∷ q) in
      let run = past_degree (is_too_high (multiple 1 (1 ∷ replicate ring.parameters 0) (x ∷ q))) units
      (followed (basis ring (B ++ z ∷ []) units) (λ G. ended (is_one_alone ring G))) empty left e in
      let f = has_followed (basis ring (B ++ z ∷ []) units) (λ G. ended (is_one_alone ring G)) empty left run in
      let s : is_one_alone ring f.first ≡ empty = (ended_same (is_one_alone ring f.first) empty f.units left f.then).0 in
      let k = finds.reduced ring units f.units (B ++ z ∷ []) f.first r (basis_canonical ring field some E B p (x ∷ q) canonical reduced hp hr same) f.ran in
      let t = one_alone_is_member ring field.two (B ++ z ∷ []) f.first k in (
        λ h. from_basis ring field some E B p (x ∷ q) canonical reduced hp hr same (one ring) (t.0 (s ∙ h)),
        λ m. sym s ∙ t.1 (to_basis ring field some E B p (x ∷ q) canonical reduced hp hr same (one ring) m),
      )

runs_decide : (basis : BasisRun) → FindsBases basis → RunsDecide basis
runs_decide basis finds ring E N units left empty r he hn e =
    let Y : Ring = y_ring ring in
    let ry = y_ring_is_ring ring r in
    let two = (modulus_field ring.modulus r.modulus).two in
    let pos : 0 < ring.modulus = omega (arith, two) in
    let F : List (List Term) = with_y ring E in
    let M : List (List Term) = with_y ring N in
    let hf = with_y_canonical ring E he in
    let hm = all_of_ring (y_ring ring) (with_y ring N) (with_y_canonical ring N hn) in
    let a = has_followed (basis (y_ring ring) (with_y ring E) units) _ empty left e in
    let B : List (List Term) = a.first in
    let reduced = finds.reduced (y_ring ring) units a.units (with_y ring E) a.first ry hf a.ran in
    let b = has_followed (products_remainder (y_ring ring) a.first (with_y ring N) (one (y_ring ring)) a.units)
    (contradiction_run basis (y_ring ring) a.first) empty left a.then in
    let p : List Term = product_of (y_ring ring) (with_y ring N) in
    let hp = product_of_ring (y_ring ring) (with_y ring N) hm in
    let same = products_same (y_ring ring) (with_y ring E) a.first pos reduced.monic reduced.minimal.groebner.members
    (with_y ring N) (one (y_ring ring)) b.first a.units b.units hm (one_canonical (y_ring ring) two) b.ran in
    let q = products_canonical (y_ring ring) (with_y ring E) a.first pos reduced.monic reduced.minimal.groebner.members
    (with_y ring N) (one (y_ring ring)) b.first a.units b.units hm (one_canonical (y_ring ring) two) b.ran in
    ended_by basis (y_ring ring) finds ry refl (with_y ring E) a.first p hf reduced hp b.first b.units left empty q
    (subst (λ f. AreCongruent (y_ring ring) (with_y ring E) f b.first) (one_times (y_ring ring) p hp) same) b.then

-- Buchberger's algorithm finds bases

finds_bases : FindsBases basis_run
finds_bases = record { reduced = λ ring units left F G r ok e. (basis_reduced ring F G units left r ok e).0 }

pub empty_is_contradiction : EmptyIsContradiction
empty_is_contradiction = runs_decide basis_run finds_bases
