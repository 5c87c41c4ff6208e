-- Bit pairs are a quorum table, whatever the number of pairs, if every mark has its bits within them.
use Rattle.std.specs.Prelude.{◌≡◌, ℕ, ◌+◌, ◌*◌, ◌^◌, ◌<◌, ◌≤◌, ◌≢◌, length, slice_index}
use Rattle.std.proofs.Common.{sym, ◌∙◌, lt_of_lt_of_le, arith, lit≤}
use Rattle.std.proofs.lemmas.List.{get_or_past}
use Rattle.std.proofs.lemmas.List.FromFn.{length-map-range_with_len, get_or-map-range_with_len}
use Rattle.tables.specs.Table.{marks, Member, RegisterSet, Lawful}
use Rattle.tables.specs.Bits.{differ}
use Rattle.tables.specs.BitPairs.{listed, written, unwritten, pairs, bit_pairs}

length-listed : (f : ℕ → ℕ) (n : ℕ) → length (listed f n) ≡ n
unfolding listed
length-listed f n = length-map-range_with_len f 0 n

-- what stands at an index, and past the end
pub listed_at : (f : ℕ → ℕ) (n k : ℕ) → k < n → slice_index (listed f n) k ≡ f k
unfolding listed
listed_at f n k l = get_or-map-range_with_len f 0 n k k 0 l (omega arith)

pub listed_past : (f : ℕ → ℕ) (n k : ℕ) → n ≤ k → slice_index (listed f n) k ≡ 0
listed_past f n k l = get_or_past (listed f n) k 0 (omega (arith, length-listed f n))

-- of a register of each of n pairs, in the order of the pairs
module _ (f : ℕ → ℕ) (n : ℕ) (of_pair : (i : ℕ) → (2 * i ≤ f i) × (f i < 2 * i + 2)) where
  set_of_pairs : RegisterSet (2 * n) n (listed f n)
  set_of_pairs = record {
    sized = length-listed f n;
    below = λ i l. omega (arith, listed_at f n i l, of_pair i);
    ascending = λ i j l m. omega (arith, listed_at f n i (omega arith), listed_at f n j m, of_pair i, of_pair j);
  }

  member_at : (i : ℕ) → i < n → Member (f i) (listed f n)
  member_at i l = record { index = i; below = omega (arith, length-listed f n); is = listed_at f n i l }

  member_is : (r : ℕ) (m : Member r (listed f n)) → f m.index ≡ r
  member_is r m = sym (listed_at f n m.index (omega (arith, length-listed f n, m.below))) ∙ m.is

written_of_pair : (v i : ℕ) → (2 * i ≤ written v i) × (written v i < 2 * i + 2)
written_of_pair v i = (omega arith, omega arith)

unwritten_of_pair : (v i : ℕ) → (2 * i ≤ unwritten v i) × (unwritten v i < 2 * i + 2)
unwritten_of_pair v i = (omega arith, omega arith)

module _ (n : ℕ) (enough : marks ≤ 2 ^ n) where
  apart : (v i j : ℕ) → written v i ≢ unwritten v j
  apart v i j e = grind arith

  meet : (v u : ℕ) → v < marks → u < marks → u ≢ v → (r : ℕ) × Member r ((pairs n).write_set v) × Member r ((pairs n).read_set u)
  meet v u hv hu ne =
      let d = differ n v u (lt_of_lt_of_le hv enough) (lt_of_lt_of_le hu enough) (λ e. ne (sym e)) in
      let same : unwritten u d.0 ≡ written v d.0 = omega arith in
      (written v d.0, member_at (written v) n (written_of_pair v) d.0 d.1, rw (← same) (member_at (unwritten u) n (unwritten_of_pair u) d.0 d.1))

  pub pairs_lawful : 2 * n ≤ 998 → Lawful (pairs n)
  pairs_lawful small = record {
    small = small;
    writes = λ v _. set_of_pairs (written v) n (written_of_pair v);
    reads = λ v _. set_of_pairs (unwritten v) n (unwritten_of_pair v);
    apart = λ v r _ m k. apart v m.index k.index (member_is (written v) n (written_of_pair v) r m ∙ sym (member_is (unwritten v) n (unwritten_of_pair v) r k));
    meet = meet;
  }

pub bit_pairs_lawful : Lawful bit_pairs
bit_pairs_lawful = pairs_lawful 8 (lit≤ tt) (lit≤ tt)
