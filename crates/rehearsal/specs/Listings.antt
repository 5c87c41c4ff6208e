-- THE LAW OF LISTINGS: what the lines of a run tell, read beside the commands that they belong to, whatever the schedule is.
-- From the line of a pile to that of the next one they tell of one trial, and its calls and answers obey the law of runs
-- (Law.antt of the crate trial). Nothing here speaks of machines, boards or sequences.
use Rattle.std.specs.Prelude.{◌≡◌, ◌≢◌, ℕ, ◌<◌, ◌≤◌, Bool, true, false, List, [], ◌∷◌, ◌++◌, length, Some, None, Err, Option, slice_index}
use Rattle.refusal.specs.declared.Refusal.{Refusal}
use Rattle.refusal.specs.declared.Refusal.TheVariants.{UnknownPile, StationCount, LeaderOutOfRange, NoPile}
use Rattle.deciding.specs.declared.record.Record.{Record}
use Rattle.listing.specs.declared.line.Line.{Line}
use Rattle.listing.specs.declared.line.Line.TheVariants as line
use Rattle.schedule.specs.declared.pile.Pile.{Pile}
use Rattle.schedule.specs.Piles.{number_of_pile}
use Rattle.schedule.specs.Script as script
use Rattle.schedule.specs.Script.{Item, command, broken, script}
use Rattle.trial.specs.declared.call.Call.{Call}
use Rattle.trial.specs.declared.call.Call.TheVariants.{Enter, Step, Stop}
use Rattle.trial.specs.Answers.{Answer}
use Rattle.trial.specs.Events.{Event, ◌gives◌, Among}
use Rattle.trial.specs.Law.{Lawful, InRange}
use Rattle.rehearsal.specs.Lines.{answer_line}
use Rattle.rehearsal.specs.Runs.{Report}

-- a command of the schedule, and the line that it got
infix 5 ◌got◌
pub data Listed : Type 0 where
  ◌got◌ : Item → Line → Listed

-- the lines of a run, each beside its command
abbrev pub beside : List Line → List Item → List Listed
beside [] xs = []
beside (l ∷ ls) [] = []
beside (l ∷ ls) (x ∷ xs) = (x got l) ∷ beside ls xs

-- the call that a command makes; an N makes none, nor does what cannot be read
abbrev pub call_of : Item → Option Call
call_of (broken q) = None
call_of (command script.new ops) = None
call_of (command script.enter ops) = Some (Enter (slice_index ops 0) (slice_index ops 1))
call_of (command script.step ops) = Some (Step (slice_index ops 0) (slice_index ops 1))
call_of (command script.stop ops) = Some (Stop (slice_index ops 0))

-- why an N for the pile of number p, with n stations and this leader, is refused: the first of its questions answered no
abbrev pub RefusesNew : ℕ → ℕ → ℕ → Refusal → Type 0
RefusesNew p n leader UnknownPile = (r : Pile) → number_of_pile r ≢ p
RefusesNew p n leader StationCount = (r : Pile) × (number_of_pile r ≡ p) × (1 ≤ n → n ≤ 16 → ⊥)
RefusesNew p n leader LeaderOutOfRange = (r : Pile) × (number_of_pile r ≡ p) × (1 ≤ n) × (n ≤ 16) × (n ≤ leader)
RefusesNew p n leader _ = ⊥

-- why a command that makes no call is refused: what cannot be read by what it lacks, an N by its first question answered no
abbrev pub TurnsDown : Item → Refusal → Type 0
TurnsDown (broken q) r = r ≡ q
TurnsDown (command script.new ops) r = RefusesNew (slice_index ops 0) (slice_index ops 1) (slice_index ops 2) r
TurnsDown (command script.enter ops) r = ⊥
TurnsDown (command script.step ops) r = ⊥
TurnsDown (command script.stop ops) r = ⊥

-- the events that lines tell, where none is a pile's: each call, with the answer whose line it got
abbrev pub TellsOf : Option Call → Item → Line → (List Event → Type 0) → List Event → Type 0
TellsOf None x l Rest events = (r : Refusal) × (l ≡ line.Refused r) × TurnsDown x r × Rest events
TellsOf (Some c) x l Rest events = (a : Answer) × (later : List Event) × (l ≡ answer_line c a) × (events ≡ (c gives a) ∷ later) × Rest later

abbrev pub Tells : List Listed → List Event → Type 0
Tells [] events = events ≡ []
Tells ((x got l) ∷ rest) events = TellsOf (call_of x) x l (Tells rest) events

-- is it the line of a new pile?
abbrev pub is_pile : Line → Bool
is_pile (line.Pile p n limit registers) = true
is_pile (line.Entered s v) = false
is_pile (line.Stepped s i o) = false
is_pile (line.Stopped s) = false
is_pile (line.Refused q) = false

abbrev pub WithoutPile : List Listed → Type 0
WithoutPile [] = Unit {0}
WithoutPile ((x got l) ∷ rest) = (is_pile l ≡ false) × WithoutPile rest

-- the command is an N for the pile p with n stations, one of which leads
abbrev pub AsksFor : Item → Pile → ℕ → Type 0
AsksFor (broken q) p n = ⊥
AsksFor (command script.new ops) p n = (number_of_pile p ≡ slice_index ops 0) × (n ≡ slice_index ops 1) × (n ≤ 16) × (slice_index ops 2 < n)
AsksFor (command script.enter ops) p n = ⊥
AsksFor (command script.step ops) p n = ⊥
AsksFor (command script.stop ops) p n = ⊥

-- without a pile every call is refused, with that reason
pub record TurnedAway (lines : List Listed) : Type 0 where
  pub events : List Event
  pub told : Tells lines events
  pub refused : (c : Call) (a : Answer) → Among (c gives a) events → a ≡ Err NoPile

-- One trial: its calls and answers obey the law of runs, as those of a ratifying object of n stations with this limit; each
-- step is on one of its registers; and the records of the law are there.
pub record OneTrial (n limit registers : ℕ) (lines : List Listed) : Type 0 where
  pub events : List Event
  pub told : Tells lines events
  pub record_of : ℕ → Record
  pub law : Lawful n limit true events record_of
  pub range : InRange registers events

pub record LawfulListing (lines : List Listed) : Type 0 where
  -- until a pile's line
  pub first : (before after : List Listed) → lines ≡ before ++ after → WithoutPile before → TurnedAway before
  -- from a pile's line on, until the next
  pub trials : (before trial after : List Listed) (x : Item) (p : Pile) (n limit registers : ℕ) →
      lines ≡ before ++ ((x got line.Pile p n limit registers) ∷ (trial ++ after)) → WithoutPile trial → AsksFor x p n × OneTrial n limit registers trial

-- The lines of a run are lawful beside the commands of its schedule. It has no more lines than these, and one for each if nothing
-- ended it before the end. What a pile's line shows as limit and registers is a bound that the trial keeps.
pub record LawfulRun (schedule : List ℕ) (r : Report) : Type 0 where
  pub listing : LawfulListing (beside r.lines (script schedule))
  pub at_most : length r.lines ≤ length (script schedule)
  pub each : r.ended ≡ None → length r.lines ≡ length (script schedule)
