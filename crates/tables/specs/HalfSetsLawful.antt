-- Half sets are a quorum table: distinct sets of one size, of numbers that have exactly five ones, none left out.
use Rattle.std.specs.Prelude.{◌≡◌, ℕ, zero, suc, ◌+◌, ◌-◌, ◌/◌, ◌%◌, ◌^◌, ◌<◌, ◌≤◌, true, not, ◌≢◌, length, refl}
use Rattle.std.proofs.Common.{ap, sym, ◌∙◌, arith, lit≤, shr-shr}
use Rattle.std.specs.Int.Count.{ones, ones_in, ones_step}
use Rattle.std.proofs.lemmas.Bool.{eqb-true, eq-eqb, not_from_false}
use Rattle.std.specs.Int.{bit_at}
use Rattle.std.proofs.lemmas.Bool.Decides.{nat_tests}
use Rattle.tables.specs.Table.{marks, Member, RegisterSet, Lawful}
use Rattle.tables.specs.Bits.{differ}
use Rattle.tables.specs.Picked.{picked, Within, picked_passes, picked_ascends, picked_member, picked_both, distinct}
use Rattle.tables.specs.HalfSets.{bit_is, places, sets, five, entry, half_sets, FiveOnes}

-- as many places have a 1 as there are ones among n bits from i on
places_ones : (x i n : ℕ) → length (picked (bit_is x 1) i n) ≡ ones_in n (x / 2 ^ i)
unfolding picked ones_in
places_ones x i zero = refl
places_ones x i (suc n) = let rest = places_ones x (i + 1) n ∙ ap (ones_in n) (sym (shr-shr x i 1)) in grind (arith, nat_tests)

-- a bit is 0 just where it is not 1
bit_opposite : (x i : ℕ) → bit_is x 0 i ≡ not (bit_is x 1 i)
bit_opposite x i = grind (arith, nat_tests)

ones_differ : (x y m : ℕ) → bit_at x m ≢ bit_at y m → bit_is x 1 m ≢ bit_is y 1 m
ones_differ x y m ne same = grind (arith, nat_tests)

module _ (n x b : ℕ) where
  set_of_places : (size : ℕ) → length (places x b n) ≡ size → RegisterSet n size (places x b n)
  set_of_places size sized = record {
    sized = sized;
    below = λ i l. omega (arith, picked_passes (bit_is x b) 0 n i (omega arith));
    ascending = λ i j l m. picked_ascends (bit_is x b) 0 n i j l (omega arith);
  }

  member_bit : (r : ℕ) → Member r (places x b n) → bit_at x r ≡ b
  member_bit r m = grind (arith, nat_tests, m.is, picked_passes (bit_is x b) 0 n m.index m.below)

-- distinct numbers of n bits, each with so many ones, make a quorum table
module _ (n size : ℕ) (number : ℕ → ℕ)
    (below : (v : ℕ) → v < marks → number v < 2 ^ n) (sized : (v : ℕ) → v < marks → ones_in n (number v) ≡ size)
    (injective : (v u : ℕ) → v < marks → u < marks → number v ≡ number u → v ≡ u) where
  writes_sized : (v : ℕ) → v < marks → length (places (number v) 1 n) ≡ size
  writes_sized v h =
      let whole : number v / 2 ^ 0 ≡ number v = omega arith in
      places_ones (number v) 0 n ∙ ap (ones_in n) whole ∙ sized v h

  reads_sized : (v : ℕ) → v < marks → length (places (number v) 0 n) ≡ n - size
  reads_sized v h = omega (arith, writes_sized v h, picked_both (bit_is (number v) 1) (bit_is (number v) 0) (bit_opposite (number v)) 0 n)

  meet : (v u : ℕ) → v < marks → u < marks → u ≢ v → (r : ℕ) × Member r (places (number v) 1 n) × Member r (places (number u) 0 n)
  meet v u hv hu ne =
      let (i, l, bits) = differ n (number v) (number u) (below v hv) (below u hu) (λ e. ne (sym (injective v u hv hu e))) in
      let (r, within, own, not_other) = distinct (bit_is (number v) 1) (bit_is (number u) 1) 0 n i (omega arith) (ones_differ (number v) (number u) i bits)
      (omega (arith, writes_sized v hv, writes_sized u hu)) in
      let written = picked_member (bit_is (number v) 1) 0 n r within own in
      let read = picked_member (bit_is (number u) 0) 0 n r within (bit_opposite (number u) r ∙ not_from_false (bit_is (number u) 1 r) not_other) in
      (r, written, read)

  sets_lawful : n ≤ 998 → Lawful (sets n size number)
  sets_lawful small = record {
    small = small;
    writes = λ v h. set_of_places n (number v) 1 size (writes_sized v h);
    reads = λ v h. set_of_places n (number v) 0 (n - size) (reads_sized v h);
    apart = λ v r h m k. omega (arith, member_bit n (number v) 1 r m, member_bit n (number v) 0 r k);
    meet = meet;
  }

-- THE NUMBERS: how many they are is computed, and the rest holds of every list of picked numbers
counted : length (picked five 0 1054) ≡ marks
unfolding picked ones_in
counted = refl

module _ (v : ℕ) (small : v < marks) where
  passes : Within 0 1054 (entry v) × (five (entry v) ≡ true)
  passes = picked_passes five 0 1054 v (omega (arith, counted))

  entry_five : ones_in 11 (entry v) ≡ 5
  entry_five = eqb-true (ones_in 11 (entry v)) 5 passes.1

  entry_below : entry v < 1054
  entry_below = omega (arith, passes)

  entry_above : (u : ℕ) → u < v → entry u < entry v
  entry_above u less = picked_ascends five 0 1054 u v less (omega (arith, counted))

entries_differ : (v u : ℕ) → v < marks → u < marks → entry v ≡ entry u → v ≡ u
entries_differ v u hv hu e = grind (arith, entry_above u hu v, entry_above v hv u)

-- all the ones of a number of k bits are among the lowest k
ones_in-ones : (k n : ℕ) → n < 2 ^ k → ones_in k n ≡ ones n
unfolding ones_in ones
ones_in-ones zero n h = grind arith
ones_in-ones (suc k) n h = ap (λ x. n % 2 + x) (ones_in-ones k (n / 2) (omega arith)) ∙ sym (ones_step n)

pub five_ones : FiveOnes
five_ones = record {
  has_five = λ v small. sym (ones_in-ones 11 (entry v) (omega (arith, entry_below v small))) ∙ entry_five v small;
  ascending = λ v u less small. entry_above u small v less;
  none_left_out = λ x e l.
      let below : x < 1054 = omega (arith, entry_below 255 (omega arith)) in
      let m = picked_member five 0 1054 x (omega arith) (eq-eqb (ones_in 11 x) 5 (ones_in-ones 11 x (omega arith) ∙ e)) in
      (m.index, omega (arith, m.below, counted), m.is);
}

pub half_sets_lawful : Lawful half_sets
half_sets_lawful = sets_lawful 11 5 entry (λ v h. omega (arith, entry_below v h)) entry_five entries_differ (lit≤ tt)
