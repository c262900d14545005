-- Want of memory is not a fault of the degree.
use Rattle.std.proofs.Common.{◌≡◌, Err, Ok}
use Rattle.std.specs.Prelude.{IsErrAnd, IsErrOf, Result}
use Rattle.cgs_poly.specs.declared.fault.PolyFault.{PolyFault}
use Rattle.cgs_poly.specs.declared.fault.PolyFault.TheVariants.{Degree, OutOfMemory}

pub not_of_degree : {T : Type 0} (r : Result T PolyFault) → IsErrAnd r (λ e. e ≡ OutOfMemory) → IsErrOf r Degree → ⊥
not_of_degree (Ok x) h e = cc
not_of_degree (Err x) h e = cc
