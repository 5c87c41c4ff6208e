-- What putting a line answers, and what it leaves of the listing.
use Rattle.std.specs.Prelude.{◌≡◌, ℕ, ◌+◌, ◌<◌, ◌≤◌, List, length, Ok, Err, Result}
use Rattle.refusal.specs.declared.Refusal.{Refusal}
use Rattle.refusal.specs.declared.Refusal.TheVariants.{ListingFull}
use Rattle.listing.specs.declared.line.Line.{Line}
use Rattle.listing.specs.Over.{over}
use Rattle.listing.specs.Lines.{text}

-- the line l stands in the listing from `at` on, up to `end`: there were 48 bytes free, and it is no longer
pub record Stands (bs : List ℕ) (at : ℕ) (l : Line) (end : ℕ) (new : List ℕ) : Type 0 where
  pub room : at + 48 ≤ length bs
  pub ends : end ≡ at + length (text l)
  pub after : new ≡ over bs at (text l)
  pub size : length new ≡ length bs
  pub within : end ≤ length bs
  pub short : length (text l) ≤ 48

-- where fewer bytes are free, the line is refused and the listing is as it was
abbrev pub Puts : List ℕ → ℕ → Line → Result ℕ Refusal → List ℕ → Type 0
Puts bs at l (Ok end) new = Stands bs at l end new
Puts bs at l (Err e) new = (length bs < at + 48) × (e ≡ ListingFull) × (new ≡ bs)

-- the same of a listing that keeps where it ends: a line that is refused moves no end
abbrev pub Appends : List ℕ → ℕ → Line → Result Unit Refusal → ℕ → List ℕ → Type 0
Appends bs at l (Ok u) end new = Puts bs at l (Ok end) new
Appends bs at l (Err e) end new = Puts bs at l (Err e) new × (end ≡ at)
