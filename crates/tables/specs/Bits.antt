-- Two numbers that are not equal differ in a bit.
use Rattle.std.specs.Prelude.{ℕ, zero, suc, ◌/◌, ◌%◌, ◌^◌, ◌<◌, ◌≢◌}
use Rattle.std.specs.Int.{bit_at}
use Rattle.std.proofs.Common.{⊎_elim, arith}
use Rattle.std.proofs.lemmas.Bool.{cases_eq}
use Rattle.std.proofs.lemmas.Nat.Bits.{bit_at-suc}

-- if they are of n bits, in one of those
pub differ : (n x y : ℕ) → x < 2 ^ n → y < 2 ^ n → x ≢ y → (i : ℕ) × (i < n) × (bit_at x i ≢ bit_at y i)
differ zero x y hx hy ne = absurd (omega arith)
differ (suc n) x y hx hy ne =
    ⊎_elim
    (λ same.
    let d = differ n (x / 2) (y / 2) (omega arith) (omega arith) (omega arith) in
    (suc d.0, omega arith, simp bit_at-suc d.2))
    (λ other. (0, omega arith, omega arith))
    (cases_eq (x % 2) (y % 2))
