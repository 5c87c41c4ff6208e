-- What a call answers and leaves: it is refused by the first of its questions that is answered no, and then the state stays.
use Rattle.std.specs.Prelude.{◌≡◌, ℕ, ◌<◌, Bool, true, false, Ok, Err, Option, Result, nat_lt}
use Rattle.std.proofs.Common.{arith}
use Rattle.std.proofs.lemmas.Bool.Decides.{nat_tests}
use Rattle.refusal.specs.declared.Refusal.{Refusal}
use Rattle.refusal.specs.declared.Refusal.TheVariants.{NoSuchStation, AlreadyEntered, NotEntered, AlreadyAnswered}
use Rattle.deciding.specs.declared.record.Outcome.{Outcome}
use Rattle.deciding.specs.declared.record.Record.{Record}
use Rattle.deciding.specs.declared.record.Record.TheVariants.{Away, UnderWay, Answered}
use Rattle.deciding.specs.declared.record.Operation.{Operation}
use Rattle.deciding.specs.Laws.{marks}
use Rattle.deciding.specs.Machine.{Machine, Step}
use Rattle.deciding.specs.Deciding.{Deciding}

-- the answer to an enter, and the state after it
pub record Entry (S : Type 0) : Type 0 where
  pub answer : Result (Unit {0}) Refusal
  pub state : S

-- by whether s is a station, and by its record
abbrev pub entry_by : (m : Machine) → m.State → ℕ → ℕ → Bool → Record → Entry m.State
entry_by m x s v false r = record { answer = Err NoSuchStation; state = x }
entry_by m x s v true Away = record { answer = Ok tt; state = m.enter x s v }
entry_by m x s v true (UnderWay p k) = record { answer = Err AlreadyEntered; state = x }
entry_by m x s v true (Answered p k o) = record { answer = Err AlreadyEntered; state = x }

abbrev pub entry : (m : Machine) → m.State → ℕ → ℕ → Entry m.State
entry m x s v = entry_by m x s v (nat_lt s (m.stations x)) (m.record_of x s)

abbrev pub Entering : (m : Machine) → m.State → ℕ → ℕ → Result (Unit {0}) Refusal → m.State → Type 0
Entering m x s v r y = (r ≡ (entry m x s v).answer) × (y ≡ (entry m x s v).state)

-- the answer to a step, and the state after it
pub record Stepped (S : Type 0) : Type 0 where
  pub answer : Result (Operation × Option Outcome) Refusal
  pub state : S

-- by whether s is a station, and by its record; n is what its step would do
abbrev pub step_by : (m : Machine) → m.State → Step m.State → Bool → Record → Stepped m.State
step_by m x n false r = record { answer = Err NoSuchStation; state = x }
step_by m x n true Away = record { answer = Err NotEntered; state = x }
step_by m x n true (UnderWay v k) = record { answer = Ok (n.operation, n.outcome); state = n.next }
step_by m x n true (Answered v k o) = record { answer = Err AlreadyAnswered; state = x }

abbrev pub stepping : (m : Machine) → m.State → ℕ → ℕ → Stepped m.State
stepping m x s c = step_by m x (m.step x s c) (nat_lt s (m.stations x)) (m.record_of x s)

abbrev pub Stepping : (m : Machine) → m.State → ℕ → ℕ → Result (Operation × Option Outcome) Refusal → m.State → Type 0
Stepping m x s c r y = (r ≡ (stepping m x s c).answer) × (y ≡ (stepping m x s c).state)

-- what is reached remains so, whatever call is made
module _ (m : Machine) (d : Deciding m) (x : m.State) (s : ℕ) (reached : d.Reached x) where
  pub entering_keeps : (v : ℕ) (r : Result (Unit {0}) Refusal) (y : m.State) → v < marks → Entering m x s v r y → Entering m x s v r y × d.Reached y
  entering_keeps v r y small e =
      let entered = λ (l : s < m.stations x) (is : m.record_of x s ≡ Away). d.enter_reached x s v reached (record { below = l; away = is; small = small }) in
      (e, grind (arith, nat_tests, reached, entered))

  pub stepping_keeps : (c : ℕ) (r : Result (Operation × Option Outcome) Refusal) (y : m.State) → Stepping m x s c r y → Stepping m x s c r y × d.Reached y
  stepping_keeps c r y e =
      let moved = λ (v k : ℕ) (l : s < m.stations x) (is : m.record_of x s ≡ UnderWay v k). d.step_reached x s c v k reached (record { below = l; under_way = is }) in
      (e, grind (arith, nat_tests, reached, moved))
