-- A protocol, and the machine of stations that run it on one board: one register operation a step.
use Rattle.std.specs.Prelude.{ℕ, ◌+◌, Bool, List, Some, None, Option, slice_index, slice_index_or, slice_set}
use Rattle.refusal.specs.declared.Refusal.{Refusal}
use Rattle.deciding.specs.declared.record.Outcome.{Outcome}
use Rattle.deciding.specs.declared.record.Record.{Record}
use Rattle.deciding.specs.declared.record.Record.TheVariants.{Away, UnderWay, Answered}
use Rattle.deciding.specs.declared.record.Access.TheVariants.{Read as Reading, Write as Writing}
use Rattle.deciding.specs.declared.record.Operation.{Operation}
use Rattle.deciding.specs.Machine.{Machine, Step}
use Rattle.machine.specs.declared.status.Status.{Status}
use Rattle.machine.specs.declared.status.Status.TheVariants.{Absent, Running, Done}
use Rattle.machine.specs.declared.status.Plan.{Plan}
use Rattle.machine.specs.declared.status.Plan.TheVariants.{Read, Write}
use Rattle.machine.specs.Turn.{Turn, On, End}

-- The algorithm and nothing else, by the setup that all stations share.
pub record Protocol (Setup Phase : Type 0) : Type 0 where
  pub stations : Setup → ℕ
  pub limit : Setup → ℕ
  pub registers : Setup → ℕ
  pub ratifying : Bool
  -- the protocol's own question at a making
  pub question : Setup → Option Refusal
  -- the phase of a station that has just entered
  pub begun : Phase
  -- of the station, its proposal and its phase: the next operation
  pub plan : Setup → ℕ → ℕ → Phase → Plan
  -- of the station, its proposal, its phase, the content read or written, and the coin: where that leads
  pub turn : Setup → ℕ → ℕ → Phase → ℕ → ℕ → Turn Phase

-- what a row shows of its station
abbrev pub shown : {P : Type 0} → Status P → Record
shown Absent = Away
shown (Running v k p) = UnderWay v k
shown (Done v k o) = Answered v k o

-- AN OPERATION on the contents of a board

abbrev pub register_of : Plan → ℕ
register_of (Read i) = i
register_of (Write i w) = i

-- what it finds or leaves in its register
abbrev pub content_of : List ℕ → Plan → ℕ
content_of xs (Read i) = slice_index xs i
content_of xs (Write i w) = w

abbrev pub contents_after : List ℕ → Plan → List ℕ
contents_after xs (Read i) = xs
contents_after xs (Write i w) = slice_set xs i w

abbrev pub operation_of : List ℕ → Plan → Operation
operation_of xs (Read i) = record { access = Reading; register = i; content = slice_index xs i }
operation_of xs (Write i w) = record { access = Writing; register = i; content = w }

-- A TURN of a station that proposed v and had taken k steps

abbrev pub status_after : {P : Type 0} → ℕ → ℕ → Turn P → Status P
status_after v k (On p) = Running v (k + 1) p
status_after v k (End o) = Done v (k + 1) o

-- the phase that a turn leaves: an outcome leaves it as it was
abbrev pub phase_after : {P : Type 0} → P → Turn P → P
phase_after q (On p) = p
phase_after q (End o) = q

abbrev pub outcome_of : {P : Type 0} → Turn P → Option Outcome
outcome_of (On p) = None
outcome_of (End o) = Some o

-- THE MACHINE

pub record Running' (Setup Phase : Type 0) : Type 0 where
  pub setup : Setup
  pub contents : List ℕ
  pub table : List (Status Phase)

abbrev pub running : {Setup Phase : Type 0} → Setup → List ℕ → List (Status Phase) → Running' Setup Phase
running u xs t = record { setup = u; contents = xs; table = t }

module _ {Setup Phase : Type 0} (p : Protocol Setup Phase) where
  -- the step of a station s that is under way
  abbrev pub step_from : Running' Setup Phase → ℕ → ℕ → ℕ → ℕ → Phase → Step (Running' Setup Phase)
  step_from x s c v k ph =
      let plan = p.plan x.setup s v ph in
      let turn = p.turn x.setup s v ph (content_of x.contents plan) c in
      record {
        operation = operation_of x.contents plan;
        outcome = outcome_of turn;
        next = running x.setup (contents_after x.contents plan) (slice_set x.table s (status_after v k turn));
      }

  -- no step is accepted of a station that is not under way; what stands for it does not matter
  abbrev pub no_step : Running' Setup Phase → Step (Running' Setup Phase)
  no_step x = record { operation = record { access = Reading; register = 0; content = 0 }; outcome = None; next = x }

  abbrev pub step_of : Running' Setup Phase → ℕ → ℕ → Status Phase → Step (Running' Setup Phase)
  step_of x s c Absent = no_step x
  step_of x s c (Running v k ph) = step_from x s c v k ph
  step_of x s c (Done v k o) = no_step x

  abbrev pub machine_of : Machine
  machine_of = record {
    State = Running' Setup Phase;
    stations = λ x. p.stations x.setup;
    limit = λ x. p.limit x.setup;
    registers = λ x. p.registers x.setup;
    ratifying = λ x. p.ratifying;
    refused = λ x. None;
    record_of = λ x s. shown (slice_index_or x.table s Absent);
    enter = λ x s v. running x.setup x.contents (slice_set x.table s (Running v 0 p.begun));
    step = λ x s c. step_of x s c (slice_index_or x.table s Absent);
  }
