-- A polynomial that was read without variables is a condition.
use Rattle.std.proofs.Common.{◌≡◌, List, [], ◌∷◌, take, replicate, subst}
use Rattle.std.specs.Prelude.{ℕ, Result, Ok, Err, IfOk}
use Rattle.cgs_poly.specs.Ring.{Ring}
use Rattle.cgs_poly.specs.Polynomial.{Term, IsPoly}
use Rattle.cgs_poly.specs.Parameters.{HasNoVariables, IsCondition}
use Rattle.cgs_problem.specs.Sums.{Reader}
use Rattle.cgs_text.specs.declared.refusal.LineRefused.{LineRefused}
use Rattle.cgs_text.specs.Scopes.{HasTermsFor}

module _ (ring : Ring) (reader : Reader) (barred : reader.barred ≡ ring.variables) where
  terms_free : (f : List Term) → HasTermsFor reader f → HasNoVariables ring f
  terms_free [] h = tt
  terms_free (x ∷ f) h = (subst (λ v. take v x.exponents ≡ replicate {A = ℕ} v 0) barred h.0.free, terms_free f h.1)

  pub condition_read : (r : Result (List Term) LineRefused) → IfOk r (IsPoly ring) → IfOk r (HasTermsFor reader) → IfOk r (IsCondition ring)
  condition_read (Ok f) poly terms = record { poly = poly; free = terms_free f terms }
  condition_read (Err refused) poly terms = tt
