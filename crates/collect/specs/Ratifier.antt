-- The collect ratifier, which the field knows as commit-adopt: write the own mark, read all marks, write a vote, read all votes.
-- Station s of n has register s for its mark and register n + s for its vote.
use Rattle.std.specs.Prelude.{ℕ, ◌+◌, ◌-◌, ◌*◌, ◌/◌, ◌%◌, ◌≤◌, Bool, true, false, if◌then◌else◌, not, ◌&&◌, ◌||◌, Some, None, Option, ◌==◌, nat_lt}
use Rattle.deciding.specs.declared.record.Outcome.{Outcome}
use Rattle.deciding.specs.declared.record.Outcome.TheVariants.{Adopt, Commit}
use Rattle.machine.specs.declared.status.Plan.{Plan}
use Rattle.machine.specs.declared.status.Plan.TheVariants.{Read, Write}
use Rattle.machine.specs.Turn.{Turn, On, End}
use Rattle.collect.specs.declared.Collect.{Collect}
use Rattle.collect.specs.declared.CollectPhase.{CollectPhase}
use Rattle.collect.specs.declared.CollectPhase.TheVariants.{WriteMark, ReadMarks, WriteVote, ReadVotes}
use Rattle.deciding.specs.Laws.{marks}
use Rattle.machine.specs.Protocol.{Protocol}

-- a vote for the mark v: full where every mark that was read is v, else half
abbrev pub full : ℕ → ℕ
full v = 2 * v + 2

abbrev pub half : ℕ → ℕ
half v = 2 * v + 1

abbrev pub vote : Bool → ℕ → ℕ
vote true v = full v
vote false v = half v

-- is the content x empty, or y?
abbrev pub fits : ℕ → ℕ → Bool
fits y x = x == 0 || x == y

-- the mark of the first full vote found, after a further content x was read
abbrev pub found_in : Option ℕ → ℕ → Option ℕ
found_in (Some u) x = Some u
found_in None x = if not (x == 0) && x % 2 == 0 then Some (x / 2 - 1) else None

-- the outcome of a station that proposed v, by whether all votes were full ones for v, and by the mark of the first full vote
abbrev pub verdict : ℕ → Bool → Option ℕ → Outcome
verdict v true f = Commit v
verdict v false (Some u) = Adopt u
verdict v false None = Adopt v

abbrev pub collect_plan : Collect → ℕ → ℕ → CollectPhase → Plan
collect_plan u s v WriteMark = Write s (v + 1)
collect_plan u s v (ReadMarks i agree) = Read i
collect_plan u s v (WriteVote agree) = Write (u.stations + s) (vote agree v)
collect_plan u s v (ReadVotes i clean found) = Read (u.stations + i)

abbrev pub collect_turn : Collect → ℕ → ℕ → CollectPhase → ℕ → ℕ → Turn CollectPhase
collect_turn u s v WriteMark x c = On (ReadMarks 0 true)
collect_turn u s v (ReadMarks i agree) x c =
    let agree' = agree && fits (v + 1) x in
    On (if nat_lt (i + 1) u.stations then ReadMarks (i + 1) agree' else WriteVote agree')
collect_turn u s v (WriteVote agree) x c = On (ReadVotes 0 true None)
collect_turn u s v (ReadVotes i clean found) x c =
    let clean' = clean && fits (full v) x in
    let found' = found_in found x in
    if nat_lt (i + 1) u.stations then On (ReadVotes (i + 1) clean' found') else End (verdict v clean' found')

-- what a station may find: a vote is for a mark
abbrev pub collect_meets : CollectPhase → ℕ → Type 0
collect_meets WriteMark x = Unit {0}
collect_meets (ReadMarks i agree) x = Unit {0}
collect_meets (WriteVote agree) x = Unit {0}
collect_meets (ReadVotes i clean found) x = x ≤ 2 * marks

abbrev pub collect : Protocol Collect CollectPhase
collect = record {
  stations = λ u. u.stations;
  limit = λ u. 2 * u.stations + 2;
  registers = λ u. 2 * u.stations;
  ratifying = true;
  question = λ u. None;
  begun = WriteMark;
  plan = collect_plan;
  turn = collect_turn;
}
