-- Calls with their answers, and what can be read off a list of them.
use Rattle.std.specs.Prelude.{◌≡◌, ℕ, ◌+◌, if◌then◌else◌, ◌⊎◌, List, [], ◌∷◌, ◌++◌, Some, ◌==◌, Ok, Err}
use Rattle.deciding.specs.declared.record.Outcome.{Outcome}
use Rattle.deciding.specs.declared.record.Operation.{Operation}
use Rattle.trial.specs.declared.call.Call.{Call}
use Rattle.trial.specs.declared.call.Call.TheVariants.{Enter as enter, Step as step, Stop as stop}
use Rattle.trial.specs.Answers.{Answer}
use Rattle.trial.specs.declared.call.Effect.TheVariants.{Entered as entered, Stepped as stepped, Stopped as stopped}

infix 5 ◌gives◌
pub data Event : Type 0 where
  ◌gives◌ : Call → Answer → Event

-- calls, each with its answer
abbrev pub events_of : List Call → List Answer → List Event
events_of [] bs = []
events_of (c ∷ cs) [] = []
events_of (c ∷ cs) (b ∷ bs) = (c gives b) ∷ events_of cs bs

abbrev pub Among : Event → List Event → Type 0
Among e [] = ⊥
Among e (x ∷ xs) = (e ≡ x) ⊎ Among e xs

-- in the list of events, e comes right after those in `before`
abbrev pub Comes : List Event → Event → List Event → Type 0
Comes before e events = (after : List Event) × (events ≡ before ++ (e ∷ after))

-- an enter of s with the mark v was accepted
abbrev pub Entered : ℕ → ℕ → List Event → Type 0
Entered s v events = Among (enter s v gives Ok entered) events

-- a step of s brought the outcome o
abbrev pub Brought : ℕ → Outcome → List Event → Type 0
Brought s o events = (c : ℕ) × (i : Operation) × Among (step s c gives Ok (stepped i (Some o))) events

-- a stop of s was accepted
abbrev pub Stopped : ℕ → List Event → Type 0
Stopped s events = Among (stop s gives Ok stopped) events

-- how many steps of s were accepted
abbrev pub steps_in : ℕ → Event → ℕ
steps_in s (enter t v gives a) = 0
steps_in s (step t c gives Err q) = 0
steps_in s (step t c gives Ok entered) = 0
steps_in s (step t c gives Ok (stepped i o)) = if s == t then 1 else 0
steps_in s (step t c gives Ok stopped) = 0
steps_in s (stop t gives a) = 0

abbrev pub steps : ℕ → List Event → ℕ
steps s [] = 0
steps s (e ∷ es) = steps_in s e + steps s es
