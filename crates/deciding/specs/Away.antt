-- Whether records are away.
use Rattle.std.specs.Prelude.{ℕ, zero, suc, Bool, true, false, ◌&&◌}
use Rattle.deciding.specs.declared.record.Record.{Record}
use Rattle.deciding.specs.declared.record.Record.TheVariants.{Away, UnderWay, Answered}

abbrev pub is_away : Record → Bool
is_away Away = true
is_away (UnderWay v k) = false
is_away (Answered v k o) = false

-- whether the records of all stations below k are away
unfoldable pub all_away : (ℕ → Record) → ℕ → Bool
all_away f zero = true
all_away f (suc k) = all_away f k && is_away (f k)
