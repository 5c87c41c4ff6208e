-- The quorum table of bit pairs: registers 2i and 2i + 1 belong to bit i. A mark writes 2i + b, where b is its bit, and reads the other.
use Rattle.std.specs.Prelude.{ℕ, ◌+◌, ◌-◌, ◌*◌, List, map}
use Rattle.std.specs.Int.{bit_at}
use Rattle.std.specs.List.{range_with_len}
use Rattle.tables.specs.Table.{Table}

-- f of each number below n
unfoldable pub listed : (ℕ → ℕ) → ℕ → List ℕ
listed f n = map f (range_with_len 0 n)

-- of pair i, the register that the mark v writes, and the one that it reads
abbrev pub written : ℕ → ℕ → ℕ
written v i = 2 * i + bit_at v i

abbrev pub unwritten : ℕ → ℕ → ℕ
unwritten v i = 2 * i + 1 - bit_at v i

-- with n pairs
abbrev pub pairs : ℕ → Table
pairs n = record {
  pool_size = 2 * n;
  write_size = n;
  read_size = n;
  write_set = λ v. listed (written v) n;
  read_set = λ v. listed (unwritten v) n;
}

abbrev pub bit_pairs : Table
bit_pairs = pairs 8
