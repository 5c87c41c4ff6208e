-- Worked examples of the two conciliators: the limits of the first, and runs of both on a board of one empty register.
use Rattle.std.specs.Prelude.{◌≡◌, ℕ, List, [], ◌∷◌, map, Some, None, Option}
use Rattle.refusal.specs.declared.Refusal.TheVariants.{LeaderOutOfRange}
use Rattle.deciding.specs.declared.record.Record.TheVariants.{Answered}
use Rattle.deciding.specs.declared.record.Outcome.{Outcome}
use Rattle.deciding.specs.declared.record.Outcome.TheVariants.{Adopt}
use Rattle.deciding.specs.declared.record.Access.TheVariants.{Read, Write}
use Rattle.deciding.specs.declared.record.Operation.{Operation}
use Rattle.conciliators.specs.declared.leader.Leader.{Leader}
use Rattle.deciding.specs.Machine.{Machine}
use Rattle.machine.specs.Protocol.{machine_of}
use Rattle.machine.specs.Making.{fresh, refusal_of}
use Rattle.conciliators.specs.Coin.{coin_conciliator}
use Rattle.conciliators.specs.Leader.{leader_conciliator}

abbrev pub coin_limits : List ℕ
coin_limits = map (λ n. coin_conciliator.limit (record { stations = n })) (1 ∷ 2 ∷ 8 ∷ 9 ∷ 16 ∷ [])

abbrev read : ℕ → Operation
read content = record { access = Read; register = 0; content = content }

abbrev write : ℕ → Operation
write content = record { access = Write; register = 0; content = content }

-- RUNS: steps, each of a station with a coin, one after another

abbrev answers : (m : Machine) → m.State → List (ℕ × ℕ) → List (Operation × Option Outcome)
answers m x [] = []
answers m x ((s, c) ∷ steps) = ((m.step x s c).operation, (m.step x s c).outcome) ∷ answers m (m.step x s c).next steps

abbrev after : (m : Machine) → m.State → List (ℕ × ℕ) → m.State
after m x [] = x
after m x ((s, c) ∷ steps) = after m (m.step x s c).next steps

abbrev coin_machine : Machine
coin_machine = machine_of coin_conciliator

-- one of four stations has entered, with mark 9
abbrev alone : coin_machine.State
alone = coin_machine.enter (fresh coin_conciliator (record { stations = 4 }) (0 ∷ [])) 0 9

abbrev leader_machine : Machine
leader_machine = machine_of leader_conciliator

-- three stations
abbrev led_by : ℕ → Leader
led_by leader = record { stations = 3; leader = leader }

-- they have entered with the marks 4, 9 and 6, and station 1 is the leader
abbrev entered : leader_machine.State
entered = leader_machine.enter (leader_machine.enter (leader_machine.enter (fresh leader_conciliator (led_by 1) (0 ∷ [])) 0 4) 1 9) 2 6

abbrev in_order : List (ℕ × ℕ)
in_order = (0, 0) ∷ (1, 0) ∷ (2, 0) ∷ []

pub record Examples : Type 0 where
  pub limits : coin_limits ≡ 3 ∷ 4 ∷ 6 ∷ 7 ∷ 7 ∷ []
  -- Coin 6 leaves the remainder 2. That is not below 1 and not below 2, but below 4: the third read leads to the write.
  pub third_read_writes :
      answers coin_machine alone ((0, 6) ∷ (0, 6) ∷ (0, 6) ∷ (0, 6) ∷ (0, 6) ∷ [])
      ≡ (read 0, None) ∷ (read 0, None) ∷ (read 0, None) ∷ (write 10, None) ∷ (read 10, Some (Adopt 9)) ∷ []
  -- who reads before the leader has written keeps its own mark
  pub leader_second : answers leader_machine entered in_order ≡ (read 0, Some (Adopt 4)) ∷ (write 10, Some (Adopt 9)) ∷ (read 10, Some (Adopt 9)) ∷ []
  pub leader_records :
      map (leader_machine.record_of (after leader_machine entered in_order)) (0 ∷ 1 ∷ 2 ∷ [])
      ≡ Answered 4 1 (Adopt 4) ∷ Answered 9 1 (Adopt 9) ∷ Answered 6 1 (Adopt 9) ∷ []
  pub leader_in_range : refusal_of leader_conciliator (led_by 2) (0 ∷ []) ≡ None
  pub leader_out_of_range : refusal_of leader_conciliator (led_by 3) (0 ∷ []) ≡ Some LeaderOutOfRange
