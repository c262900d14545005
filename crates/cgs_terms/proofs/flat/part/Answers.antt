use Rattle.std.proofs.Common.{ℕ, ◌≡◌, ◌-◌, ◌*◌, ap, drop, take}
use Rattle.std.proofs.Math.Nat.{mul-sub, mul_comm}
use Rattle.cgs_terms.proofs.flat.part.Goals as goal

difference : (a b p : ℕ) → a * p - b * p ≡ (a - b) * p
difference a b p = cc (mul-sub p a b, mul_comm p (a - b), mul_comm p a, mul_comm p b)

pub returns : goal.returns
returns c = ap (λ n. take n (drop (c.args.from * c.args.places) c.args.exponents.now)) (difference c.args.to c.args.from c.args.places)
