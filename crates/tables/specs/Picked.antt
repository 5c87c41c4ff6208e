-- The numbers that pass a test, as a list: what is in it, and two such lists of one length.
use Rattle.std.specs.Prelude.{◌≡◌, ℕ, zero, suc, ◌+◌, ◌-◌, ◌<◌, ◌≤◌, Bool, true, false, cond, not, ◌≢◌, List, [], ◌∷◌, length, slice_index}
use Rattle.std.specs.List.{filter, range_with_len, All}
use Rattle.std.proofs.Common.{refl, sym, ◌∙◌, inl, inr, arith}
use Rattle.std.proofs.lemmas.Bool.{cases_Bool, not-true, not_from_false, false_from_ne_true, true_from_ne_false}
use Rattle.std.proofs.lemmas.List.Elements.{All-filter, filter_passes}
use Rattle.std.proofs.lemmas.List.Filters.{length-filter_both, sum_by-filter_both}
use Rattle.std.proofs.lemmas.List.FromFn.{length-range_with_len, get_or-range_with_len}
use Rattle.std.proofs.lemmas.List.Kept.{AllPairs-filter}
use Rattle.std.proofs.lemmas.List.Sums.{length-filter}
use Rattle.tables.specs.Table.{Member}

-- those of n numbers from i on, lowest first
unfoldable pub picked : (ℕ → Bool) → ℕ → ℕ → List ℕ
picked f i n = filter f (range_with_len i n)

-- m is one of n numbers from i on
abbrev pub Within : ℕ → ℕ → ℕ → Type 0
Within i n m = (i ≤ m) × (m < i + n)

-- each of those numbers is
numbers_within : (i n : ℕ) → All (Within i n) (range_with_len i n)
numbers_within i n k d l = omega (arith, length-range_with_len i n, get_or-range_with_len i n k d)

-- a member that passes a test is a member of what is filtered by it
filter_member : (f : ℕ → Bool) (xs : List ℕ) (k : ℕ) → k < length xs → f (slice_index xs k) ≡ true → Member (slice_index xs k) (filter f xs)
filter_member f [] k l e = absurd (omega arith)
filter_member f (x ∷ xs) zero l e = rw e (record { index = 0; below = omega arith; is = refl })
filter_member f (x ∷ xs) (suc k) l e = after (f x) (filter_member f xs k (omega arith) e)
  where
    after : (b : Bool) → Member (slice_index xs k) (filter f xs) → Member (slice_index xs k) (cond b (x ∷ filter f xs) (filter f xs))
    after true m = record { index = suc m.index; below = omega (arith, m.below); is = m.is }
    after false m = m

module _ (f : ℕ → Bool) (i n : ℕ) where
  -- each member is one of the numbers, and passes
  pub picked_passes : (j : ℕ) → j < length (picked f i n) → Within i n (slice_index (picked f i n) j) × (f (slice_index (picked f i n) j) ≡ true)
  unfolding picked
  picked_passes j l = (All-filter f (Within i n) (range_with_len i n) (numbers_within i n) j 0 l, filter_passes f (range_with_len i n) j 0 l)

  pub picked_ascends : (j k : ℕ) → j < k → k < length (picked f i n) → slice_index (picked f i n) j < slice_index (picked f i n) k
  unfolding picked
  picked_ascends j k l m = AllPairs-filter (λ x y. x < y) f (range_with_len i n) (λ a b d less within. omega (arith, length-range_with_len i n, get_or-range_with_len i n a d, get_or-range_with_len i n b d)) j k 0 l m

  -- each number that passes is a member
  pub picked_member : (m : ℕ) → Within i n m → f m ≡ true → Member m (picked f i n)
  unfolding picked
  picked_member m w e =
      let at : slice_index (range_with_len i n) (m - i) ≡ m = omega (arith, get_or-range_with_len i n (m - i) 0 (omega arith)) in
      rw at at (filter_member f (range_with_len i n) (m - i) (omega (arith, length-range_with_len i n)) (rw at e))

module _ (f g : ℕ → Bool) where
  -- a number passes one of two opposite tests
  pub picked_both : ((m : ℕ) → g m ≡ not (f m)) → (i n : ℕ) → length (picked f i n) + length (picked g i n) ≡ n
  unfolding picked
  picked_both opposite i n = omega (arith, length-filter_both f g opposite (range_with_len i n), length-range_with_len i n)

  -- some number of n from i on passes f alone
  abbrev pub Alone : ℕ → ℕ → Type 0
  Alone i n = (m : ℕ) × Within i n m × (f m ≡ true) × (g m ≡ false)

module _ (f g : ℕ → Bool) (i n : ℕ) where
  abbrev not_f : ℕ → Bool
  not_f x = not (f x)

  abbrev not_g : ℕ → Bool
  not_g x = not (g x)

  abbrev numbers : List ℕ
  numbers = range_with_len i n

  -- The more numbers pass f than g, the more pass f alone than g alone.
  counts : length (filter f numbers) + length (filter not_f (filter g numbers)) ≡ length (filter g numbers) + length (filter f (filter not_g numbers))
  counts = omega (
    arith,
    length-filter_both f not_f (λ _. refl) (filter g numbers),
    sum_by-filter_both g not_g (λ _. refl) (λ x. cond (f x) 1 0) numbers,
    length-filter f numbers,
    length-filter f (filter g numbers),
    length-filter f (filter not_g numbers),
  )

  first_alone : 0 < length (filter f (filter not_g numbers)) → Alone f g i n
  first_alone some = (
    slice_index (filter f (filter not_g numbers)) 0,
    All-filter f (Within i n) (filter not_g numbers) (All-filter not_g (Within i n) numbers (numbers_within i n)) 0 0 some,
    filter_passes f (filter not_g numbers) 0 0 some,
    not-true (g _) (All-filter f (λ x. not_g x ≡ true) (filter not_g numbers) (filter_passes not_g numbers) 0 0 some),
  )

  -- where more pass f than g
  pub longer : length (picked g i n) < length (picked f i n) → Alone f g i n
  unfolding picked
  longer l = first_alone (omega (arith, counts))

  -- two distinct sets, of which f's is no smaller: it has a member of its own
  pub distinct : (m : ℕ) → Within i n m → f m ≢ g m → length (picked g i n) ≤ length (picked f i n) → Alone f g i n
  unfolding picked
  distinct m w ne l = elim (cases_Bool (f m)) [
    | inl passes ↦ (m, w, passes, false_from_ne_true (g m) (λ e. ne (passes ∙ sym e)))
    | inr fails ↦
        let of_g = picked_member g i n m w (true_from_ne_false (g m) (λ e. ne (fails ∙ sym e))) in
        let alone = filter_member not_f (filter g numbers) of_g.index of_g.below (rw of_g.is (not_from_false (f m) fails)) in
        first_alone (omega (arith, counts, alone.below))
  ]
