-- The quorum table of half sets: of a pool of eleven registers a mark writes five, a different five for each mark, and reads the other six.
use Rattle.std.specs.Prelude.{◌≡◌, ℕ, ◌-◌, ◌<◌, ◌≤◌, Bool, List, ◌==◌, count_ones, slice_index}
use Rattle.std.specs.Int.Count.{ones_in}
use Rattle.std.specs.Int.{bit_at}
use Rattle.tables.specs.Picked.{picked}
use Rattle.tables.specs.Table.{marks, Table}

-- is bit i of x as given?
abbrev pub bit_is : ℕ → ℕ → ℕ → Bool
bit_is x b i = bit_at x i == b

-- those of the lowest n places where it is
abbrev pub places : ℕ → ℕ → ℕ → List ℕ
places x b n = picked (bit_is x b) 0 n

-- A pool of n registers, and a number for each mark, with so many ones in binary: the mark writes where its number has a 1,
-- and reads where it has a 0.
abbrev pub sets : ℕ → ℕ → (ℕ → ℕ) → Table
sets n size number = record {
  pool_size = n;
  write_size = size;
  read_size = n - size;
  write_set = λ v. places (number v) 1 n;
  read_set = λ v. places (number v) 0 n;
}

-- are just five of the lowest eleven bits 1?
abbrev pub five : ℕ → Bool
five x = ones_in 11 x == 5

-- the (v + 1)th smallest number with exactly five ones in binary, of 256: the last is 1,053
abbrev pub entry : ℕ → ℕ
entry v = slice_index (picked five 0 1054) v

-- what makes it the (v + 1)th smallest
pub record FiveOnes : Type 0 where
  pub has_five : (v : ℕ) → v < marks → count_ones (entry v) ≡ 5
  pub ascending : (v u : ℕ) → v < u → u < marks → entry v < entry u
  pub none_left_out : (x : ℕ) → count_ones x ≡ 5 → x ≤ entry 255 → (v : ℕ) × (v < marks) × (entry v ≡ x)

abbrev pub half_sets : Table
half_sets = sets 11 5 entry
