-- Powers of two beside a byte, and the smallest that is enough, looked for among those of a byte.
use Rattle.std.proofs.Common.{◌≡◌, ℕ, ◌^◌, ◌%◌, ◌<◌, ◌≤◌, Option, arith, pow_mono}
use Rattle.std.proofs.Math.Nat.{mod-le}
use Rattle.std.specs.Option.{MatchOption, unwrap_or}
use Rattle.conciliators.specs.Doublings.{SmallestPower}

in_a_byte : (k : ℕ) → k < 8 → 2 ^ k % 256 ≡ 2 ^ k
in_a_byte k few = grind (arith, pow_mono)

pub smallest_found : (n : ℕ) → n < 256 → (r : Option ℕ) →
    MatchOption r ((k : ℕ) → 0 ≤ k → k < 8 → 2 ^ k % 256 < n) (λ i. (0 ≤ i) × (i < 8) × (n ≤ 2 ^ i % 256) × ((k : ℕ) → 0 ≤ k → k < i → 2 ^ k % 256 < n)) →
    SmallestPower n (unwrap_or r 8)
smallest_found n byte r found = grind (arith, in_a_byte)

-- from try 8 on every remainder of a byte is low enough
pub low_from_8 : (n t c : ℕ) → c < 256 → 8 ≤ t → c % n < 2 ^ t
low_from_8 n t c byte many = omega (arith, pow_mono many, mod-le c n)
