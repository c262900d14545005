-- What holds of each monomial of a list holds of each of its canonical list; the monomials that no lead of a basis divides.
use Rattle.std.proofs.Common.{ℕ, ◌≡◌, ◌+◌, ◌%◌, Bool, true, false, cond, eqb, List, [], ◌∷◌, length, take, sym, ap, ◌∙◌, subst}
use Rattle.std.specs.List.{AllByRecursion}
use Rattle.std.specs.declared.cmp.Ordering.{Ordering}
use Rattle.std.specs.declared.cmp.Ordering.TheVariants.{Less, Equal, Greater}
use Rattle.cgs_exps.specs.Monomial.{product}
use Rattle.cgs_exps.proofs.MonomialLemmas.{one_product}
use Rattle.cgs_order.specs.TermOrder.{compared}
use Rattle.cgs_poly.specs.Ring.{Ring}
use Rattle.cgs_poly.specs.Polynomial.{Term, term, places, order_of, IsOfRing, kept, inserted, canonical}
use Rattle.cgs_poly.specs.Product.{all_products}
use Rattle.cgs_poly.proofs.ProductOrderLemmas.{take_product}
use Rattle.cgs_poly.proofs.SpecialisedLemmas.{variables_length}
use Rattle.cgs_algebra.proofs.WeightLemmas.{Each, each_products}
use Rattle.cgs_algebra.proofs.PointLemmas.{IsFree}
use Rattle.cgs_algebra.proofs.PartLemmas.{HasVariables}
use Rattle.cgs_member.specs.ReductionRun.{lead_divides}
use Rattle.cgs_member.specs.Laws.{IsUndivided}

each_kept : (P : List ℕ → Type 0) (ring : Ring) (c : ℕ) (m : List ℕ) (f : List Term) → P m → Each P f → Each P (kept ring c m f)
each_kept P ring c m f l h = step (eqb (c % ring.modulus) 0)
  where
    step : (b : Bool) → Each P (cond b f (term (c % ring.modulus) m ∷ f))
    step true = h
    step false = (l, h)

each_inserted : (P : List ℕ → Type 0) (ring : Ring) (c : ℕ) (m : List ℕ) (f : List Term) → P m → Each P f → Each P (inserted ring c m f)
each_inserted P ring c m [] l h = each_kept P ring c m [] l tt
each_inserted P ring c m (y ∷ f) l h = step (compared (order_of ring) m y.exponents) (each_inserted P ring c m f l h.1)
  where
    step : (o : Ordering) → Each P (inserted ring c m f)
        → Each P (elim o [ Less ↦ y ∷ inserted ring c m f | Equal ↦ kept ring (c + y.coefficient) m f | Greater ↦ kept ring c m (y ∷ f) ])
    step Less ih = (h.0, ih)
    step Equal ih = each_kept P ring (c + y.coefficient) m f l h.1
    step Greater ih = each_kept P ring c m (y ∷ f) l h

pub each_canonical : (P : List ℕ → Type 0) (ring : Ring) (f : List Term) → Each P f → Each P (canonical ring f)
each_canonical P ring [] h = tt
each_canonical P ring (x ∷ f) h = each_inserted P ring x.coefficient x.exponents (canonical ring f) h.0 (each_canonical P ring f h.1)

pub each_weaker : (P Q : List ℕ → Type 0) (f : List Term) → ((m : List ℕ) → P m → Q m) → Each P f → Each Q f
each_weaker P Q [] k h = tt
each_weaker P Q (y ∷ f) k h = (k y.exponents h.0, each_weaker P Q f k h.1)

-- a monomial of the ring whose variables no lead of B divides
abbrev pub Undivided : Ring → List (List Term) → List ℕ → Type 0
Undivided ring B m = (length m ≡ places ring) × AllByRecursion (λ b. lead_divides ring b (take ring.variables m) ≡ false) B

-- times a monomial in the parameters it stays one
undivided_product : (ring : Ring) (B : List (List Term)) (u m : List ℕ) → IsFree ring u → length (product u m) ≡ places ring → Undivided ring B m
    → Undivided ring B (product u m)
undivided_product ring B u m free l h =
    let z : take ring.variables (product u m) ≡ take ring.variables m = take_product ring.variables u m
    ∙ (ap (λ k. product k (take ring.variables m)) free.1 ∙ one_product ring.variables (take ring.variables m) (variables_length ring m h.0)) in
    (l, subst (λ k. AllByRecursion (λ b. lead_divides ring b k ≡ false) B) (sym z) h.1)

pub undivided_products : (ring : Ring) (B : List (List Term)) (q f : List Term) → ((u m : List ℕ) → length u ≡ places ring → length m ≡ places ring
    → length (product u m) ≡ places ring) → Each (IsFree ring) q → Each (Undivided ring B) f → Each (Undivided ring B) (all_products q f)
undivided_products ring B q f long h k =
    each_products (IsFree ring) (Undivided ring B) (Undivided ring B) q f h k (λ u m a b. undivided_product ring B u m a (long u m a.0 b.0) b)

pub undivided_part : (ring : Ring) (B : List (List Term)) (x : List ℕ) (f : List Term) → AllByRecursion (λ b. lead_divides ring b x ≡ false) B
    → Each (HasVariables ring x) f → Each (Undivided ring B) f
undivided_part ring B x f none h =
    each_weaker (HasVariables ring x) (Undivided ring B) f
    (λ m k. (k.0, subst (λ v. AllByRecursion (λ b. lead_divides ring b v ≡ false) B) (sym k.1) none)) h

-- as the law says it
pub undivided_terms : (ring : Ring) (B : List (List Term)) (f : List Term) → Each (Undivided ring B) f → IsUndivided ring B f
undivided_terms ring B [] h = tt
undivided_terms ring B (y ∷ f) h = (h.0.1, undivided_terms ring B f h.1)

pub undivided_of_ring : (ring : Ring) (B : List (List Term)) (f : List Term) → Each (Undivided ring B) f → IsOfRing ring f
undivided_of_ring ring B [] h = tt
undivided_of_ring ring B (y ∷ f) h = (h.0.0, undivided_of_ring ring B f h.1)
