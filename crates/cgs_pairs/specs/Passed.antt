-- The pairs that were taken, and those passed over by Buchberger's two criteria (Becker, Weispfenning, 5.5; Cox, Little, O'Shea, chapter 2, section 10).
use Rattle.std.specs.Prelude.{ℕ, suc, ◌≡◌, ◌<◌, Bool, false, not, ◌==◌, ◌&&◌, ◌||◌, List, [], ◌∷◌, length, slice_index_or, cond, nat_lt, IsTrue}
use Rattle.cgs_exps.specs.Monomial.{divides, coprime}
use Rattle.cgs_poly.specs.Ring.{Ring}
use Rattle.cgs_poly.specs.Polynomial.{Term, IsRing}
use Rattle.cgs_poly.specs.Product.{leading_monomial}
use Rattle.cgs_algebra.specs.Groebner.{AreMonic, leading_monomial_at}
use Rattle.cgs_algebra.specs.SPolynomial.{pair_lcm, HasLcmRepresentation}
use Rattle.cgs_pairs.specs.declared.pair.Pair.{Pair}

-- the pair of a larger and a smaller place is among pairs that were taken
abbrev pub has_pair : ℕ → ℕ → List (ℕ × ℕ) → Bool
has_pair larger smaller [] = false
has_pair larger smaller (x ∷ taken) = (x.0 == larger && x.1 == smaller) || has_pair larger smaller taken

-- the pair of two places, whichever is larger, was taken
abbrev pub was_taken : ℕ → ℕ → List (ℕ × ℕ) → Bool
was_taken i j taken = cond (nat_lt i j) (has_pair j i taken) (has_pair i j taken)

-- place k is none of the pair's, the lead of f there divides the lcm, and the pairs of k with either place were taken
abbrev pub is_third : Pair → List (ℕ × ℕ) → ℕ → List Term → Bool
is_third q taken k f =
    not (k == q.smaller) && not (k == q.larger) && divides (leading_monomial f) q.lcm && was_taken k q.smaller taken && was_taken k q.larger taken

-- some place from k on is such a third place
abbrev pub has_third : Pair → List (ℕ × ℕ) → ℕ → List (List Term) → Bool
has_third q taken k [] = false
has_third q taken k (f ∷ G) = is_third q taken k f || has_third q taken (suc k) G

-- place k of G is such a third place
abbrev pub IsThirdPlace : Pair → List (List Term) → List (ℕ × ℕ) → ℕ → Type 0
IsThirdPlace q G taken k = (k < length G) × IsTrue (is_third q taken k (slice_index_or G k []))

-- the pair is passed: its leads are coprime, or there is a third place
abbrev pub is_passed : Pair → List (List Term) → List (ℕ × ℕ) → Bool
is_passed q G taken = coprime (leading_monomial_at G q.smaller) (leading_monomial_at G q.larger) || has_third q taken 0 G

-- monic polynomials of some ring
pub record AreOfOneRing (G : List (List Term)) : Type 0 where
  pub ring : Ring
  pub valid : IsRing ring
  pub monic : AreMonic ring G

-- a pair of two places of a list, with the lcm of the leads there
pub record IsPairOf (G : List (List Term)) (q : Pair) : Type 0 where
  pub apart : q.smaller < q.larger
  pub within : q.larger < length G
  pub lcm : q.lcm ≡ pair_lcm (slice_index_or G q.smaller []) (slice_index_or G q.larger [])

-- the pairs that were taken are pairs of places of G, and their S-polynomials have lcm representations
pub record AreRepresented (ring : Ring) (G : List (List Term)) (taken : List (ℕ × ℕ)) : Type 0 where
  pub at : (larger smaller : ℕ) → IsTrue (has_pair larger smaller taken)
      → (smaller < length G) × (larger < length G) × HasLcmRepresentation ring G smaller larger
