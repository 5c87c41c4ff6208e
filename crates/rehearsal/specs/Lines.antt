-- The lines that a run lists.
use Rattle.std.specs.Prelude.{ℕ, List, [], ◌∷◌, ◌++◌, Ok, Err}
use Rattle.listing.specs.declared.line.Line.{Line}
use Rattle.listing.specs.declared.line.Line.TheVariants as line
use Rattle.listing.specs.Lines.{text}
use Rattle.deciding.specs.Machine.{Machine}
use Rattle.schedule.specs.declared.pile.Pile.{Pile}
use Rattle.trial.specs.declared.call.Call.{Call}
use Rattle.trial.specs.declared.call.Call.TheVariants.{Enter, Step, Stop}
use Rattle.trial.specs.Answers.{Answer}
use Rattle.trial.specs.declared.call.Effect.TheVariants.{Entered, Stepped, Stopped}
use Rattle.trial.specs.Perform.{station_of}

-- the mark of an enter
abbrev pub mark_of : Call → ℕ
mark_of (Enter s v) = v
mark_of (Step s c) = 0
mark_of (Stop s) = 0

-- the line of a call and its answer
abbrev pub answer_line : Call → Answer → Line
answer_line c (Err q) = line.Refused q
answer_line c (Ok Entered) = line.Entered (station_of c) (mark_of c)
answer_line c (Ok (Stepped i o)) = line.Stepped (station_of c) i o
answer_line c (Ok Stopped) = line.Stopped (station_of c)

-- the line of an N that was accepted, by the numbers that the trial tells
abbrev pub pile_line : Pile → (m : Machine) → m.State → Line
pile_line p m x = line.Pile p (m.stations x) (m.limit x) (m.registers x)

-- the bytes of lines one after another
unfoldable pub listed : List Line → List ℕ
listed [] = []
listed (l ∷ ls) = text l ++ listed ls
