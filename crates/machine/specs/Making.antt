-- The making of a machine on a board with given contents, and the questions that it asks.
use Rattle.std.specs.Prelude.{ℕ, zero, suc, Bool, true, cond, ◌&&◌, List, length, replicate, Some, None, Option, ◌==◌, nat_le, slice_index}
use Rattle.refusal.specs.declared.Refusal.{Refusal}
use Rattle.refusal.specs.declared.Refusal.TheVariants.{StationCount, TooFewRegisters, RegistersInUse}
use Rattle.deciding.specs.Sizes.{one_to_sixteen}
use Rattle.deciding.specs.Refusable.{Refusable, with_refusal}
use Rattle.machine.specs.declared.status.Status.TheVariants.{Absent}
use Rattle.machine.specs.Protocol.{Protocol, Running', running}
use Rattle.machine.specs.Kept.{rows}

-- are the first k contents all empty?
abbrev pub empty_below : List ℕ → ℕ → Bool
empty_below xs zero = true
empty_below xs (suc k) = slice_index xs k == 0 && empty_below xs k

-- the first of two questions that is answered no
abbrev pub first_of : Option Refusal → Option Refusal → Option Refusal
first_of (Some r) q = Some r
first_of None q = q

module _ {Setup Phase : Type 0} (p : Protocol Setup Phase) where
  -- Asked in this order: is the number of stations 1 to 16, the protocol's own question, has the board enough registers,
  -- are those empty.
  abbrev pub refusal_of : Setup → List ℕ → Option Refusal
  refusal_of u xs =
      cond (one_to_sixteen (p.stations u))
      (first_of (p.question u)
      (cond (nat_le (p.registers u) (length xs))
      (cond (empty_below xs (p.registers u)) None (Some RegistersInUse))
      (Some TooFewRegisters)))
      (Some StationCount)

  -- a machine with no station in its table
  abbrev pub fresh : Setup → List ℕ → Running' Setup Phase
  fresh u xs = running u xs (replicate rows Absent)

  abbrev pub made : Setup → List ℕ → Refusable (Running' Setup Phase)
  made u xs = with_refusal (fresh u xs) (refusal_of u xs)
