-- What a deciding object does, as an abstract machine: a type of states, and functions of a state and a call.
use Rattle.std.specs.Prelude.{◌≡◌, ℕ, ◌<◌, Bool, ◌≢◌, Option}
use Rattle.refusal.specs.declared.Refusal.{Refusal}
use Rattle.deciding.specs.declared.record.Outcome.{Outcome}
use Rattle.deciding.specs.declared.record.Record.{Record}
use Rattle.deciding.specs.declared.record.Record.TheVariants.{Away, UnderWay}
use Rattle.deciding.specs.declared.record.Operation.{Operation}
use Rattle.deciding.specs.Laws.{marks}

-- what a step answers, and the state after it
pub record Step (S : Type 0) : Type 0 where
  pub operation : Operation
  pub outcome : Option Outcome
  pub next : S

-- The state holds all that the object is, its registers too. `enter` is what an accepted enter of a station with a mark
-- does, `step` what an accepted step of a station with a coin does; what is accepted is said in Calls.antt.
pub record Machine : Type 1 where
  pub State : Type 0
  pub stations : State → ℕ
  pub limit : State → ℕ
  pub registers : State → ℕ
  pub ratifying : State → Bool
  -- why the making was refused, if it was
  pub refused : State → Option Refusal
  pub record_of : State → ℕ → Record
  pub enter : State → ℕ → ℕ → State
  pub step : State → ℕ → ℕ → Step State

-- station s may enter with the mark v
pub record Enters (m : Machine) (x : m.State) (s v : ℕ) : Type 0 where
  pub below : s < m.stations x
  pub away : m.record_of x s ≡ Away
  pub small : v < marks

-- station s, which proposed v and took k steps, may step
pub record Steps (m : Machine) (x : m.State) (s v k : ℕ) : Type 0 where
  pub below : s < m.stations x
  pub under_way : m.record_of x s ≡ UnderWay v k

-- two states alike in what never changes, and in every record but that of s
pub record Beside (m : Machine) (s : ℕ) (x y : m.State) : Type 0 where
  pub stations : m.stations y ≡ m.stations x
  pub limit : m.limit y ≡ m.limit x
  pub registers : m.registers y ≡ m.registers x
  pub ratifying : m.ratifying y ≡ m.ratifying x
  pub refused : m.refused y ≡ m.refused x
  pub others : (t : ℕ) → t ≢ s → m.record_of y t ≡ m.record_of x t
