-- Bytes with others in the place of those from a position on.
use Rattle.std.specs.Prelude.{◌≡◌, ℕ, ◌+◌, List, ◌++◌, length, take, drop}

unfoldable pub over : List ℕ → ℕ → List ℕ → List ℕ
over bs at ds = take at bs ++ (ds ++ drop (at + length ds) bs)

-- the bytes ds were put over those from `at` on, up to `end`, and there were so many
pub record Extends (bs : List ℕ) (at : ℕ) (ds : List ℕ) (end : ℕ) (new : List ℕ) : Type 0 where
  pub ends : end ≡ at + length ds
  pub after : new ≡ over bs at ds
  pub size : length new ≡ length bs
