-- A trial of the code, as the definitions of Perform.antt and the law of runs have it.
use Rattle.std.specs.Prelude.{◌≡◌, ℕ, false, Some, List, length, slice_index_or}
use Rattle.refusal.specs.declared.Refusal.{Refusal}
use Rattle.deciding.specs.declared.object.DecidingObject.{Ghosts}
use Rattle.deciding.specs.declared.record.Record.TheVariants.{Away}
use Rattle.deciding.specs.Machine.{Machine}
use Rattle.deciding.specs.Refusable.{Refusable, RefusableReached, refusable, with_refusal}
use Rattle.trial.specs.declared.call.Call.{Call}
use Rattle.trial.specs.Answers.{Answer}
use Rattle.trial.specs.declared.Trial.{Trial}
use Rattle.trial.specs.Events.{events_of}
use Rattle.trial.specs.Law.{Lawful, InRange}
use Rattle.trial.specs.Perform.{TrialState, begun, trial_refusal, Performs, answers, last}

-- a trial of an object in the state x, just made
abbrev pub new_trial : (m : Machine) → m.State → TrialState (Refusable m.State)
new_trial m x = begun (with_refusal x (trial_refusal m x))

-- the calls are put to it, and obey the law of runs
abbrev pub LawfulTrial : (m : Machine) → m.State → List Call → Type 0
LawfulTrial m x calls =
    let shows = refusable m in
    let new = new_trial m x in
    Lawful (shows.stations new.object) (shows.limit new.object) (shows.ratifying new.object) (events_of calls (answers shows new calls)) (shows.record_of (last shows new calls).object)

module _ {D : Type 0} (G : Ghosts D) where
  -- the pile as its trial shows it: nothing at all, where the trial was refused
  abbrev pub whole : Machine
  whole = refusable G.machine

  abbrev pub tried : Trial D → TrialState (Refusable G.machine.State)
  tried t = record { object = with_refusal (G.state t.pile) t.refused; stopped = λ s. slice_index_or t.stopped s false }

  -- where the trial was refused it stays so, and the pile in it as it is
  abbrev pub Stays : Trial D → Trial D → Type 0
  Stays t u = (r : Refusal) → t.refused ≡ Some r → (u.refused ≡ Some r) × (u.pile ≡ t.pile)

  -- a is the answer to the call c, and u the trial after it
  abbrev pub Does : Trial D → Call → Answer → Trial D → Type 0
  Does t c a u = Performs whole (tried t) c a (tried u) × Stays t u

  -- a trial of this pile as its making leaves it
  abbrev pub made_of : D → TrialState (Refusable G.machine.State)
  made_of d = new_trial G.machine (G.state d)

  -- as trials of piles begun new begin: all records away, nobody stopped
  pub record Begun (t : Trial D) : Type 0 where
    pub reached : RefusableReached G.machine G.deciding (tried t).object
    pub away : (s : ℕ) → whole.record_of (tried t).object s ≡ Away
    pub stopped : (s : ℕ) → (tried t).stopped s ≡ false

  -- all records are away and nobody is stopped, whatever led there
  pub record Untouched (t : Trial D) : Type 0 where
    pub away : (s : ℕ) → whole.record_of (tried t).object s ≡ Away
    pub stopped : (s : ℕ) → (tried t).stopped s ≡ false

  -- the answers to a list of calls, put to the trial t, and the trial u after them
  pub record Runs (t : Trial D) (calls : List Call) (given : List Answer) (u : Trial D) : Type 0 where
    pub answers : given ≡ answers whole (tried t) calls
    pub last : tried u ≡ last whole (tried t) calls
    pub stays : Stays t u

  -- THE PROMISE: one answer to each call, and together they obey the law, with the numbers that the trial tells and its
  -- records at the end.
  pub record Rehearsed (t : Trial D) (calls : List Call) (given : List Answer) (u : Trial D) : Type 0 where
    pub each : length given ≡ length calls
    pub lawful : let x = (tried t).object in Lawful (whole.stations x) (whole.limit x) (whole.ratifying x) (events_of calls given) (whole.record_of (tried u).object)
    pub in_range : InRange (whole.registers (tried t).object) (events_of calls given)
