-- Worked examples of the two tables, and the rule of the numbers of the half sets.
use Rattle.std.specs.Prelude.{◌≡◌, [], ◌∷◌}
use Rattle.tables.specs.BitPairs.{bit_pairs}
use Rattle.tables.specs.HalfSets.{entry, half_sets, FiveOnes}

pub record Examples : Type 0 where
  pub bit_pairs_written : bit_pairs.write_set 5 ≡ 1 ∷ 2 ∷ 5 ∷ 6 ∷ 8 ∷ 10 ∷ 12 ∷ 14 ∷ []
  pub bit_pairs_read : bit_pairs.read_set 5 ≡ 0 ∷ 3 ∷ 4 ∷ 7 ∷ 9 ∷ 11 ∷ 13 ∷ 15 ∷ []
  pub first_entry : entry 0 ≡ 31
  pub entry_251 : entry 251 ≡ 992
  pub entry_252 : entry 252 ≡ 1039
  pub half_sets_written : half_sets.write_set 0 ≡ 0 ∷ 1 ∷ 2 ∷ 3 ∷ 4 ∷ []
  pub half_sets_read : half_sets.read_set 0 ≡ 5 ∷ 6 ∷ 7 ∷ 8 ∷ 9 ∷ 10 ∷ []
  pub numbers : FiveOnes
