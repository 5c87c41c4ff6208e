-- What the reader answers, by what stands in the schedule.
use Rattle.std.specs.Prelude.{◌≡◌, ℕ, ◌+◌, ◌<◌, ◌≤◌, List, length, take, drop, Some, None, Ok, Err, Option, Result, slice_index}
use Rattle.std.specs.Borrow.{Bor}
use Rattle.refusal.specs.declared.Refusal.{Refusal}
use Rattle.refusal.specs.declared.Refusal.TheVariants.{OperandsMissing}
use Rattle.schedule.specs.declared.command.Command.{Command}
use Rattle.schedule.specs.declared.command.Command.TheVariants.{New, Enter, Step, Stop}
use Rattle.schedule.specs.Script.{Kind, Item, command, broken, new, enter, step, stop, item, operands}

abbrev pub kind_of : Command → Kind
kind_of (New ops) = new
kind_of (Enter ops) = enter
kind_of (Step ops) = step
kind_of (Stop ops) = stop

-- the operands that a command borrows
abbrev pub operands_of : Command → List ℕ
operands_of (New ops) = ops.now
operands_of (Enter ops) = ops.now
operands_of (Step ops) = ops.now
operands_of (Stop ops) = ops.now

abbrev pub item_of : Command → Item
item_of c = command (kind_of c) (operands_of c)

-- what begins at the position p
abbrev pub reading : List ℕ → ℕ → Item
reading bs p = item (slice_index bs p) (drop (p + 1) bs)

-- the command that begins at p was read, up to q
pub record Passed (bs : List ℕ) (p : ℕ) (c : Command) (q : ℕ) : Type 0 where
  pub here : p < length bs
  pub is : item_of c ≡ reading bs p
  pub part : operands_of c ≡ take (operands (kind_of c)) (drop (p + 1) bs)
  pub whole : length (operands_of c) ≡ operands (kind_of c)
  pub after : q ≡ p + 1 + operands (kind_of c)
  pub within : q ≤ length bs

abbrev pub Shows : List ℕ → ℕ → Result (Option Command) Refusal → ℕ → Type 0
Shows bs p (Ok (Some c)) q = Passed bs p c q
Shows bs p (Ok None) q = (length bs ≤ p) × (q ≡ p)
Shows bs p (Err e) q = (p < length bs) × (broken e ≡ reading bs p) × (q ≡ p)

-- so many operands after the letter at p, if they are all there
abbrev pub Takes : List ℕ → ℕ → ℕ → Result (Bor (List ℕ)) Refusal → ℕ → Type 0
Takes bs p n (Ok ops) q = (n ≤ length (drop (p + 1) bs)) × (ops.now ≡ take n (drop (p + 1) bs)) × (length ops.now ≡ n) × (q ≡ p + 1 + n) × (q ≤ length bs)
Takes bs p n (Err e) q = (length (drop (p + 1) bs) < n) × (e ≡ OperandsMissing) × (q ≡ p)
