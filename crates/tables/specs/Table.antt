-- A quorum table: for each mark a write set and a read set of registers, and the law by which they tell marks apart.
use Rattle.std.specs.Prelude.{◌≡◌, ℕ, ◌<◌, ◌≤◌, ◌≢◌, List, length, slice_index, slice_index_or}

-- how many marks there are: a mark is a byte
abbrev pub marks : ℕ
marks = 256

-- All sets are of registers below the pool's size, and all of one kind have one size. A set is the list of its registers.
pub record Table : Type 0 where
  pub pool_size : ℕ
  pub write_size : ℕ
  pub read_size : ℕ
  -- of a mark
  pub write_set : ℕ → List ℕ
  pub read_set : ℕ → List ℕ

pub record Member (r : ℕ) (xs : List ℕ) : Type 0 where
  pub index : ℕ
  pub below : index < length xs
  pub is : slice_index_or xs index 0 ≡ r

-- so many registers below the pool's size, lowest first
pub record RegisterSet (pool_size size : ℕ) (xs : List ℕ) : Type 0 where
  pub sized : length xs ≡ size
  pub below : (i : ℕ) → i < size → slice_index xs i < pool_size
  pub ascending : (i j : ℕ) → i < j → j < size → slice_index xs i < slice_index xs j

-- The limit of 998 leaves a ratifier that has one register more, and two steps more than the two sets have registers, within 1,000.
pub record Lawful (q : Table) : Type 0 where
  pub small : q.pool_size ≤ 998
  pub writes : (v : ℕ) → v < marks → RegisterSet q.pool_size q.write_size (q.write_set v)
  pub reads : (v : ℕ) → v < marks → RegisterSet q.pool_size q.read_size (q.read_set v)
  -- The write set of v and the read set of u have no common register exactly when u is v.
  pub apart : (v r : ℕ) → v < marks → Member r (q.write_set v) → Member r (q.read_set v) → ⊥
  pub meet : (v u : ℕ) → v < marks → u < marks → u ≢ v → (r : ℕ) × Member r (q.write_set v) × Member r (q.read_set u)
