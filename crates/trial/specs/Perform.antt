-- What a trial does with a call: its own two questions first, then the call goes to the object, which asks its own.
use Rattle.std.specs.Prelude.{◌≡◌, ℕ, ◌<◌, Bool, true, false, if◌then◌else◌, List, [], ◌∷◌, Some, None, Ok, Err, Option, Result, ◌==◌, nat_lt}
use Rattle.refusal.specs.declared.Refusal.{Refusal}
use Rattle.refusal.specs.declared.Refusal.TheVariants.{NoSuchStation, StationCount, NotAllAway, Stopped as WasStopped}
use Rattle.deciding.specs.declared.record.Operation.{Operation}
use Rattle.deciding.specs.declared.record.Outcome.{Outcome}
use Rattle.deciding.specs.Away.{all_away}
use Rattle.deciding.specs.Calls.{entry, stepping}
use Rattle.deciding.specs.Laws.{marks}
use Rattle.deciding.specs.Machine.{Machine}
use Rattle.deciding.specs.Sizes.{one_to_sixteen}
use Rattle.trial.specs.declared.call.Call.{Call}
use Rattle.trial.specs.declared.call.Call.TheVariants.{Enter, Step, Stop}
use Rattle.trial.specs.Answers.{Answer}
use Rattle.trial.specs.declared.call.Effect.TheVariants.{Entered, Stepped, Stopped}

-- an object, and which stations were stopped
pub record TrialState (S : Type 0) : Type 0 where
  pub object : S
  pub stopped : ℕ → Bool

-- as a trial begins: nobody is stopped
abbrev pub begun : {S : Type 0} → S → TrialState S
begun x = record { object = x; stopped = λ s. false }

abbrev pub station_of : Call → ℕ
station_of (Enter s v) = s
station_of (Step s c) = s
station_of (Stop s) = s

-- the mark that a call enters with is a mark
abbrev pub Small : Call → Type 0
Small (Enter s v) = v < marks
Small (Step s c) = Unit {0}
Small (Stop s) = Unit {0}

abbrev pub AllSmall : List Call → Type 0
AllSmall [] = Unit {0}
AllSmall (c ∷ cs) = Small c × AllSmall cs

-- what each of the three calls answers by itself, as an answer
abbrev pub entered_as : Result (Unit {0}) Refusal → Answer
entered_as (Ok u) = Ok Entered
entered_as (Err e) = Err e

abbrev pub stepped_as : Result (Operation × Option Outcome) Refusal → Answer
stepped_as (Ok r) = Ok (Stepped r.0 r.1)
stepped_as (Err e) = Err e

abbrev pub stopped_as : Result (Unit {0}) Refusal → Answer
stopped_as (Ok u) = Ok Stopped
stopped_as (Err e) = Err e

-- The making of a trial asks whether the pile has 1 to 16 stations, and whether all their records are away.
abbrev pub trial_refusal : (m : Machine) → m.State → Option Refusal
trial_refusal m x = if one_to_sixteen (m.stations x) then (if all_away (m.record_of x) 16 then None else Some NotAllAway) else Some StationCount

module _ (m : Machine) where
  -- is there such a station, and is it not stopped?
  abbrev pub admission : TrialState m.State → ℕ → Option Refusal
  admission x s = if nat_lt s (m.stations x.object) then (if x.stopped s then Some WasStopped else None) else Some NoSuchStation

  pub record Performed : Type 0 where
    pub answer : Answer
    pub next : TrialState m.State

  -- a call of a station that is admitted
  abbrev pub admitted : TrialState m.State → Call → Performed
  admitted x (Enter s v) =
      let e = entry m x.object s v in
      record { answer = entered_as e.answer; next = record { object = e.state; stopped = x.stopped } }
  admitted x (Step s c) =
      let e = stepping m x.object s c in
      record { answer = stepped_as e.answer; next = record { object = e.state; stopped = x.stopped } }
  admitted x (Stop s) = record { answer = Ok Stopped; next = record { object = x.object; stopped = λ t. if t == s then true else x.stopped t } }

  -- a refused call leaves the trial as it is
  abbrev pub unless : TrialState m.State → Option Refusal → Performed → Performed
  unless x None p = p
  unless x (Some q) p = record { answer = Err q; next = x }

  abbrev pub perform : TrialState m.State → Call → Performed
  perform x c = unless x (admission x (station_of c)) (admitted x c)

  -- a and y are the answer to the call c, which is one with a mark, and the trial after it
  pub record Performs (x : TrialState m.State) (c : Call) (a : Answer) (y : TrialState m.State) : Type 0 where
    pub small : Small c
    pub answer : a ≡ (perform x c).answer
    pub next : y ≡ (perform x c).next

  -- a list of calls: their answers, and the trial after them
  abbrev pub answers : TrialState m.State → List Call → List Answer
  answers x [] = []
  answers x (c ∷ cs) = (perform x c).answer ∷ answers (perform x c).next cs

  abbrev pub last : TrialState m.State → List Call → TrialState m.State
  last x [] = x
  last x (c ∷ cs) = last (perform x c).next cs
