-- THE LAW OF RUNS: what holds of every list of enters, steps and stops, and of the answers to them, whatever the deciding
-- object is that they were put to. It speaks of the calls, the answers and the records at the end, and of nothing else.
use Rattle.std.specs.Prelude.{◌≡◌, ℕ, ◌<◌, ◌≤◌, Bool, true, false, ◌⊎◌, ◌↔◌, List, [], ◌∷◌, Some, Option, Ok, Err}
use Rattle.refusal.specs.declared.Refusal.{Refusal}
use Rattle.refusal.specs.declared.Refusal.TheVariants.{NoSuchStation, Stopped as WasStopped, AlreadyEntered, NotEntered, AlreadyAnswered}
use Rattle.deciding.specs.declared.record.Outcome.{Outcome}
use Rattle.deciding.specs.declared.record.Outcome.TheVariants.{Commit}
use Rattle.deciding.specs.declared.record.Record.{Record}
use Rattle.deciding.specs.declared.record.Record.TheVariants.{Away, UnderWay, Answered}
use Rattle.deciding.specs.declared.record.Operation.{Operation}
use Rattle.deciding.specs.Laws.{mark, Proposes, Ends}
use Rattle.trial.specs.declared.call.Call.{Call}
use Rattle.trial.specs.declared.call.Call.TheVariants.{Enter as enter, Step as step, Stop as stop}
use Rattle.trial.specs.Answers.{Answer}
use Rattle.trial.specs.declared.call.Effect.TheVariants.{Entered as entered, Stepped as stepped, Stopped as stopped}
use Rattle.trial.specs.Events.{Event, ◌gives◌, Among, Comes, Entered, Brought, Stopped, steps}
use Rattle.trial.specs.Perform.{station_of}

-- THE QUESTIONS that are put to a call, in their order, and the refusal where one is answered no

pub data Question : Type 0 where
  is_station not_stopped not_entered has_entered no_outcome : Question

abbrev pub questions : Call → List Question
questions (enter s v) = is_station ∷ not_stopped ∷ not_entered ∷ []
questions (step s c) = is_station ∷ not_stopped ∷ has_entered ∷ no_outcome ∷ []
questions (stop s) = is_station ∷ not_stopped ∷ []

abbrev pub refusal : Question → Refusal
refusal is_station = NoSuchStation
refusal not_stopped = WasStopped
refusal not_entered = AlreadyEntered
refusal has_entered = NotEntered
refusal no_outcome = AlreadyAnswered

-- what a question asks of the station s, where n is the number of stations and these events came before
abbrev pub Yes : ℕ → List Event → ℕ → Question → Type 0
Yes n before s is_station = s < n
Yes n before s not_stopped = ¬ Stopped s before
Yes n before s not_entered = (v : ℕ) → ¬ Entered s v before
Yes n before s has_entered = (v : ℕ) × Entered s v before
Yes n before s no_outcome = (o : Outcome) → ¬ Brought s o before

abbrev pub FirstNo : (Question → Type 0) → List Question → Refusal → Type 0
FirstNo holds [] k = ⊥
FirstNo holds (q ∷ qs) k = (¬ holds q × (k ≡ refusal q)) ⊎ (holds q × FirstNo holds qs k)

abbrev pub AllYes : (Question → Type 0) → List Question → Type 0
AllYes holds [] = Unit {0}
AllYes holds (q ∷ qs) = holds q × AllYes holds qs

-- the answer to an accepted call
abbrev pub Accepted : Call → Answer → Type 0
Accepted (enter s v) a = a ≡ Ok entered
Accepted (step s c) a = (i : Operation) × (o : Option Outcome) × (a ≡ Ok (stepped i o))
Accepted (stop s) a = a ≡ Ok stopped

-- a call is refused by the first question that is answered no, and accepted where there is none
abbrev pub Judged : (Question → Type 0) → Call → Answer → Type 0
Judged holds c a = ((k : Refusal) × (a ≡ Err k) × FirstNo holds (questions c) k) ⊎ (AllYes holds (questions c) × Accepted c a)

abbrev pub steps_of : Record → ℕ
steps_of Away = 0
steps_of (UnderWay v k) = k
steps_of (Answered v k o) = k

-- the record r shows just what the events say of s: the mark of its accepted enter, the count of its accepted steps, and the
-- outcome that these brought
pub record Shows (s : ℕ) (events : List Event) (r : Record) : Type 0 where
  pub proposal : (v : ℕ) → Proposes r v ↔ Entered s v events
  pub count : steps_of r ≡ steps s events
  pub outcome : (o : Outcome) → Ends r o ↔ Brought s o events

-- THE LAW, of n stations with this step limit: of all events since the trial began, and of the records after them.
pub record Lawful (n limit : ℕ) (ratifying : Bool) (events : List Event) (record_of : ℕ → Record) : Type 0 where
  -- 1. An outcome has the mark of an enter accepted earlier.
  pub valid : (before : List Event) (s c : ℕ) (i : Operation) (o : Outcome) → Comes before (step s c gives Ok (stepped i (Some o))) events → (t : ℕ) × Entered t (mark o) before
  -- 2. If an answer commits u, every outcome, earlier and later, has the mark u.
  pub coherent : (s t u : ℕ) (o : Outcome) → Brought s (Commit u) events → Brought t o events → mark o ≡ u
  -- 3. Each call is judged by the events before it: refused with the first question that it fails, and else accepted.
  pub judged : (before : List Event) (c : Call) (a : Answer) → Comes before (c gives a) events → Judged (Yes n before (station_of c)) c a
  -- 4. A station takes no more steps than the limit, and has its outcome by the last of them.
  pub bounded : (s : ℕ) → steps s events ≤ limit
  pub in_time : (s v : ℕ) → Entered s v events → (steps s events < limit) ⊎ ((o : Outcome) × Brought s o events)
  -- 5. A ratifying object commits where all enters accepted until then have one mark; one that is not ratifying never commits.
  pub ratifies : ratifying ≡ true → (before : List Event) (s c : ℕ) (i : Operation) (o : Outcome) → Comes before (step s c gives Ok (stepped i (Some o))) events →
      (v : ℕ) → ((t w : ℕ) → Entered t w before → w ≡ v) → o ≡ Commit v
  pub never : ratifying ≡ false → (s u : ℕ) → ¬ Brought s (Commit u) events
  -- 6. Each record shows what the events say of its station.
  pub shows : (s : ℕ) → Shows s events (record_of s)

-- besides: every step works on a register of the object
abbrev pub InRange : ℕ → List Event → Type 0
InRange registers events = (s c : ℕ) (i : Operation) (o : Option Outcome) → Among (step s c gives Ok (stepped i o)) events → i.register < registers
