-- The quorum ratifier, over any quorum table: write the write set of the own mark, settle on a preference, and read the read set of
-- the preference. Those registers are all empty if no other mark is being written.
-- The table's pool is registers 0 to k − 1, and register k is the preference register.
use Rattle.std.specs.Prelude.{ℕ, ◌+◌, ◌-◌, ◌≤◌, true, if◌then◌else◌, None, ◌==◌, nat_lt, slice_index}
use Rattle.deciding.specs.declared.record.Outcome.TheVariants.{Adopt, Commit}
use Rattle.machine.specs.declared.status.Plan.{Plan}
use Rattle.machine.specs.declared.status.Plan.TheVariants.{Read, Write}
use Rattle.machine.specs.Turn.{Turn, On, End}
use Rattle.quorum.specs.declared.Quorum.{Quorum}
use Rattle.quorum.specs.declared.QuorumPhase.{QuorumPhase}
use Rattle.quorum.specs.declared.QuorumPhase.TheVariants.{WriteSet, ReadPreference, WritePreference, ReadSet}
use Rattle.deciding.specs.Laws.{marks}
use Rattle.machine.specs.Protocol.{Protocol}
use Rattle.tables.specs.Table.{Table}

-- of the proposal and the phase
abbrev pub quorum_plan : Table → ℕ → QuorumPhase → Plan
quorum_plan q v (WriteSet i) = Write (slice_index (q.write_set v) i) 1
quorum_plan q v ReadPreference = Read q.pool_size
quorum_plan q v WritePreference = Write q.pool_size (v + 1)
quorum_plan q v (ReadSet p i) = Read (slice_index (q.read_set p) i)

-- of the proposal, the phase and the content
abbrev pub quorum_turn : Table → ℕ → QuorumPhase → ℕ → Turn QuorumPhase
quorum_turn q v (WriteSet i) x = On (if nat_lt (i + 1) q.write_size then WriteSet (i + 1) else ReadPreference)
quorum_turn q v ReadPreference x = On (if x == 0 then WritePreference else ReadSet (x - 1) 0)
quorum_turn q v WritePreference x = On (ReadSet v 0)
quorum_turn q v (ReadSet p i) x =
    if x == 0 then (if nat_lt (i + 1) q.read_size then On (ReadSet p (i + 1)) else End (Commit p)) else End (Adopt p)

-- what a station may find: the preference register, of two bytes, holds a mark
abbrev pub quorum_meets : QuorumPhase → ℕ → Type 0
quorum_meets (WriteSet i) x = Unit {0}
quorum_meets ReadPreference x = x ≤ marks
quorum_meets WritePreference x = Unit {0}
quorum_meets (ReadSet p i) x = Unit {0}

abbrev pub step_limit : Table → ℕ
step_limit q = q.write_size + q.read_size + 2

abbrev pub quorum : (Q : Type 0) → Table → Protocol (Quorum Q) QuorumPhase
quorum Q q = record {
  stations = λ u. u.stations;
  limit = λ u. step_limit q;
  registers = λ u. q.pool_size + 1;
  ratifying = true;
  question = λ u. None;
  begun = WriteSet 0;
  plan = λ u s v ph. quorum_plan q v ph;
  turn = λ u s v ph x c. quorum_turn q v ph x;
}
