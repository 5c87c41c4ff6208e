-- What a run lists and answers, for every schedule and every length of the listing.
use Rattle.std.specs.Prelude.{ℕ, ◌+◌, ◌-◌, if◌then◌else◌, List, [], ◌∷◌, length, Some, None, Ok, Err, Option, Result, nat_le, nat_lt, slice_index}
use Rattle.refusal.specs.declared.Refusal.{Refusal}
use Rattle.refusal.specs.declared.Refusal.TheVariants.{ScheduleTooLong, ListingFull, StationCount, LeaderOutOfRange}
use Rattle.deciding.specs.Machine.{Machine}
use Rattle.deciding.specs.Refusable.{refusable}
use Rattle.deciding.specs.Sizes.{one_to_sixteen}
use Rattle.listing.specs.declared.line.Line.{Line}
use Rattle.listing.specs.declared.line.Line.TheVariants.{Refused}
use Rattle.listing.specs.Lines.{text}
use Rattle.schedule.specs.declared.pile.Pile.{Pile}
use Rattle.schedule.specs.Piles.{pile_numbered}
use Rattle.schedule.specs.Script as script
use Rattle.schedule.specs.Script.{Item, command, broken, script, tail}
use Rattle.trial.specs.declared.call.Call.{Call}
use Rattle.trial.specs.declared.call.Call.TheVariants.{Enter, Step, Stop}
use Rattle.trial.specs.Trials.{new_trial}
use Rattle.rehearsal.specs.declared.verdict.Verdict.{Verdict}
use Rattle.rehearsal.specs.declared.verdict.Verdict.TheVariants.{Ends, Halts, Refuses, Begins, Asks}
use Rattle.rehearsal.specs.Lines.{answer_line, pile_line}
use Rattle.rehearsal.specs.Piles.{Built, built}
use Rattle.rehearsal.specs.Responders.{Responder, in_state, no_trial, trial_in}

-- THE QUESTIONS of a command, before any trial is asked

abbrev pub start_verdict : Result Pile Refusal → ℕ → ℕ → Verdict
start_verdict (Err e) n leader = Refuses e
start_verdict (Ok p) n leader =
    if one_to_sixteen n
    then (if nat_lt leader n then Begins (record { pile = p; stations = n; leader = leader }) else Refuses LeaderOutOfRange)
    else Refuses StationCount

abbrev pub new_verdict : ℕ → ℕ → ℕ → Verdict
new_verdict p n leader = start_verdict (pile_numbered p) n leader

abbrev pub item_verdict : Item → Verdict
item_verdict (broken q) = Halts q
item_verdict (command script.new ops) = new_verdict (slice_index ops 0) (slice_index ops 1) (slice_index ops 2)
item_verdict (command script.enter ops) = Asks (Enter (slice_index ops 0) (slice_index ops 1))
item_verdict (command script.step ops) = Asks (Step (slice_index ops 0) (slice_index ops 1))
item_verdict (command script.stop ops) = Asks (Stop (slice_index ops 0))

-- a command asks first whether 48 listing bytes are free
abbrev pub verdict : ℕ → Item → Verdict
verdict room x = if nat_le 48 room then item_verdict x else Ends (Some ListingFull)

-- WHAT A COMMAND DOES

-- it ends the run, with a line or without, or it has its line and leaves something that answers calls
pub data Done : Type 1 where
  over_with : List Line → Option Refusal → Done
  on_with : Line → Responder → Done

abbrev pub called : Call → Responder → Done
called c st =
    let h = st.answers st.state c in
    on_with (answer_line c h.answer) (in_state st.answers h.next)

-- a new trial of an object in the state x
abbrev pub trial_begun : Pile → (m : Machine) → m.State → Done
trial_begun p m x = on_with (pile_line p (refusable m) (new_trial m x).object) (trial_in (refusable m) (new_trial m x))

abbrev pub pile_begun : Pile → Built → Done
pile_begun p d = trial_begun p d.machine d.start

abbrev pub done : Verdict → Responder → Done
done (Ends q) st = over_with [] q
done (Halts q) st = over_with (Refused q ∷ []) (Some q)
done (Refuses q) st = on_with (Refused q) st
done (Begins u) st = pile_begun u.pile (built u.pile u.stations u.leader)
done (Asks c) st = called c st

-- THE RUN: its lines, the bytes of the commands done or refused before the one that ended it, and what ended it
pub record Report : Type 0 where
  pub lines : List Line
  pub consumed : ℕ
  pub ended : Option Refusal

abbrev pub reported : Done → ℕ → ℕ → (ℕ → Responder → Report) → Report
reported (over_with ls q) size room rest = record { lines = ls; consumed = 0; ended = q }
reported (on_with l st) size room rest =
    let r = rest (room - length (text l)) st in
    record { lines = l ∷ r.lines; consumed = size + r.consumed; ended = r.ended }

-- of these items, with so many listing bytes free
abbrev pub report : List Item → ℕ → Responder → Report
report [] room st = record { lines = []; consumed = 0; ended = None }
report (x ∷ xs) room st = reported (done (verdict room x) st) (1 + tail x) room (report xs)

-- the length of the schedule is asked before any command
abbrev pub run_of : List ℕ → ℕ → Report
run_of bs room = if nat_le (length bs) 4096 then report (script bs) room no_trial else record { lines = []; consumed = 0; ended = Some ScheduleTooLong }
