-- A chain over the numbers below a bound, which asks whether a test passes on each of them.
use Rattle.std.specs.Prelude.{◌≡◌, ℕ, ◌<◌, Bool, true, false, List, length, Option, Decides, refl}
use Rattle.std.specs.Bool.{MatchBool}
use Rattle.std.specs.Fn.{Called}
use Rattle.std.specs.Iterator.{YieldsThen}
use Rattle.std.specs.List.{range_with_len, FoldsTo, AllWithin, HoldsAt}
use Rattle.std.specs.Option.{MatchOption}
use Rattle.std.proofs.Common.{arith}
use Rattle.std.proofs.iter.Yields.{nat_range_steps}
use Rattle.std.proofs.lemmas.Iterator.{cases_from_all, YieldsList-from_range}
use Rattle.std.proofs.lemmas.List.FromFn.{length-range_with_len, get_or-range_with_len}
use Rattle.std.specs.declared.ops.Range.{Range}
use denote.Param.Members.{Mut}

decided : (n : ℕ) (p : ℕ → Bool) (r : Bool) →
    MatchBool r (AllWithin (λ k. p k ≡ true) (range_with_len 0 n) 0 (length (range_with_len 0 n)))
    ((k : ℕ) × (k < length (range_with_len 0 n)) × HoldsAt (λ k. p k ≡ false) (range_with_len 0 n) k) →
    Decides r ((k : ℕ) → k < n → p k ≡ true)
decided n p true all = (λ _ k below. grind (arith, length-range_with_len 0 n, get_or-range_with_len 0 n k 0, all k 0, below), λ _. refl)
decided n p false (k, below, fails) = (λ e. cc, λ every. grind (arith, length-range_with_len 0 n, get_or-range_with_len 0 n k 0, every k, fails 0, below))

-- what `(0..n).all(..)` answers, where the closure f answers the test p of every number
pub all_below : {F : Type 0} {g : Mut F (ℕ × Unit {0}) Bool} (s u : Range ℕ) (f : F) (n : ℕ) (p : ℕ → Bool) (r : Bool) → s ≡ record { start = 0; end = n } →
    (xs : List ℕ) × (o : Option ℕ) × (j : F) × YieldsThen nat_range_steps s xs o u × FoldsTo (λ p x q. Called g p (x, tt) true q) f xs j
    × MatchOption o (r ≡ true) (λ x. (r ≡ false) × ((h : F) × Called g j (x, tt) false h)) →
    ((x : ℕ) (q : F) → Called g f (x, tt) true q → (q ≡ f) × (p x ≡ true)) → ((x : ℕ) (q : F) → Called g f (x, tt) false q → p x ≡ false) →
    Decides r ((k : ℕ) → k < n → p k ≡ true)
all_below s u f n p r is run hits misses =
    decided n p r (cases_from_all u f r (λ k. p k ≡ true) (λ k. p k ≡ false) run (YieldsList-from_range 0 n n is (omega arith)) hits misses)
