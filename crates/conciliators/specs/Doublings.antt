-- How often 1 is doubled until it is at least n.
use Rattle.std.specs.Prelude.{◌≡◌, ℕ, zero, suc, ◌+◌, ◌^◌, ◌<◌, ◌≤◌, if◌then◌else◌, nat_le}
use Rattle.std.proofs.Common.{add-suc, add-zero, suc-add, zero-add, arith, pow_mono}
use Rattle.std.proofs.lemmas.Bool.Decides.{nat_tests}

-- 2 ^ k is the smallest power that is at least n
pub record SmallestPower (n k : ℕ) : Type 0 where
  pub enough : n ≤ 2 ^ k
  pub none_less : (i : ℕ) → i < k → 2 ^ i < n

-- the first k from j on with 2 ^ k at least n, looked for among so many
abbrev pub doublings_from : ℕ → ℕ → ℕ → ℕ
doublings_from zero j n = j
doublings_from (suc more) j n = let further = doublings_from more (suc j) n in if nat_le n (2 ^ j) then j else further

-- n doublings are more than enough
abbrev pub doublings_to : ℕ → ℕ
doublings_to n = doublings_from n 0 n

below_power : (n : ℕ) → n < 2 ^ n
below_power zero = omega arith
below_power (suc n) = omega (arith, below_power n)

from_smallest : (more j n : ℕ) → n ≤ 2 ^ (more + j) → ((i : ℕ) → i < j → 2 ^ i < n) → SmallestPower n (doublings_from more j n)
from_smallest zero j n far before = grind (arith, zero-add)
from_smallest (suc more) j n far before = grind (arith, nat_tests, add-suc, suc-add, from_smallest more (suc j) n)

pub doublings_smallest : (n : ℕ) → SmallestPower n (doublings_to n)
doublings_smallest n = from_smallest n 0 n (rw add-zero (omega (arith, below_power n))) (λ i l. omega arith)

-- there is only one such number
pub smallest_is : (n k : ℕ) → SmallestPower n k → k ≡ doublings_to n
smallest_is n k h =
    let d = doublings_to n in
    let g = doublings_smallest n in
    grind (arith, g.none_less k, h.none_less d)

pub doublings_few : (n : ℕ) → doublings_to n ≤ n
doublings_few n = let g = doublings_smallest n in grind (arith, below_power n, g.none_less n)

-- as long as a power is below n there are doublings left
pub doublings_left : (n t : ℕ) → 2 ^ t < n → t < doublings_to n
doublings_left n t small = let g = doublings_smallest n in grind (arith, pow_mono)
