-- What a board call answers and leaves, by the list of the contents.
use Rattle.std.specs.Prelude.{◌≡◌, ℕ, ◌<◌, ◌≤◌, List, length, Ok, Err, Result, slice_index, slice_set}
use Rattle.refusal.specs.declared.Refusal.{Refusal}
use Rattle.refusal.specs.declared.Refusal.TheVariants.{NoSuchRegister}

-- a read of register i answers its content; it is refused where there is no register i
abbrev pub Reads : List ℕ → ℕ → Result ℕ Refusal → Type 0
Reads xs i (Ok w) = (i < length xs) × (w ≡ slice_index xs i)
Reads xs i (Err e) = (length xs ≤ i) × (e ≡ NoSuchRegister)

-- a write of w to register i puts w there and leaves every other register; a refused one leaves them all
abbrev pub Writes : List ℕ → ℕ → ℕ → Result (Unit {0}) Refusal → List ℕ → Type 0
Writes xs i w (Ok u) ys = (i < length xs) × (ys ≡ slice_set xs i w)
Writes xs i w (Err e) ys = (length xs ≤ i) × (e ≡ NoSuchRegister) × (ys ≡ xs)

-- a relation between a board and what calls made of it: it holds after no call, and over one call after another
pub record Steady {S : Type 0} (kept : S → S → Type 0) : Type 0 where
  pub same : (x : S) → kept x x
  pub on : (x y z : S) → kept x y → kept y z → kept x z
