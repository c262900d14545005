-- The monomials of a canonical list are among those of the terms.
use Rattle.std.proofs.Common.{ℕ, ◌+◌, ◌%◌, Bool, true, false, cond, eqb, List, [], ◌∷◌}
use Rattle.std.specs.declared.cmp.Ordering.{Ordering}
use Rattle.std.specs.declared.cmp.Ordering.TheVariants.{Less, Equal, Greater}
use Rattle.std.specs.List.{AllByRecursion}
use Rattle.cgs_order.specs.TermOrder.{compared}
use Rattle.cgs_poly.specs.Ring.{Ring}
use Rattle.cgs_poly.specs.Polynomial.{Term, term, order_of, kept, inserted, canonical}

-- each monomial is so
abbrev pub EachMonomial : (List ℕ → Type 0) → List Term → Type 0
EachMonomial P f = AllByRecursion (λ (x : Term). P x.exponents) f

in_kept : (P : List ℕ → Type 0) (ring : Ring) (c : ℕ) (m : List ℕ) (f : List Term) → P m → EachMonomial P f → EachMonomial P (kept ring c m f)
in_kept P ring c m f p h = step (eqb (c % ring.modulus) 0)
  where
    step : (t : Bool) → EachMonomial P (cond t f (term (c % ring.modulus) m ∷ f))
    step true = h
    step false = (p, h)

in_inserted : (P : List ℕ → Type 0) (ring : Ring) (c : ℕ) (m : List ℕ) (f : List Term) → P m → EachMonomial P f → EachMonomial P (inserted ring c m f)
in_inserted P ring c m [] p h = in_kept P ring c m [] p tt
in_inserted P ring c m (y ∷ f) p h = step (in_inserted P ring c m f p h.1) (compared (order_of ring) m y.exponents)
  where
    step : EachMonomial P (inserted ring c m f) → (o : Ordering)
        → EachMonomial P (elim o [ Less ↦ y ∷ inserted ring c m f | Equal ↦ kept ring (c + y.coefficient) m f | Greater ↦ kept ring c m (y ∷ f) ])
    step rest Less = (h.0, rest)
    step rest Equal = in_kept P ring (c + y.coefficient) m f p h.1
    step rest Greater = in_kept P ring c m (y ∷ f) p h

pub in_canonical : (P : List ℕ → Type 0) (ring : Ring) (f : List Term) → EachMonomial P f → EachMonomial P (canonical ring f)
in_canonical P ring [] h = tt
in_canonical P ring (x ∷ f) h = in_inserted P ring x.coefficient x.exponents (canonical ring f) h.0 (in_canonical P ring f h.1)
