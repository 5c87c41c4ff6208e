-- A conciliator that only waits: so many reads of register 0, then the station adopts its own mark.
use Rattle.std.specs.Prelude.{ℕ, ◌+◌, min, false, if◌then◌else◌, None, nat_lt}
use Rattle.deciding.specs.declared.record.Outcome.TheVariants.{Adopt}
use Rattle.machine.specs.declared.status.Plan.TheVariants.{Read}
use Rattle.machine.specs.Turn.{Turn, On, End}
use Rattle.machine.specs.Protocol.{Protocol}
use Rattle.waiting.specs.declared.Waiting.{Waiting}
use Rattle.waiting.specs.declared.WaitingPhase.{WaitingPhase}
use Rattle.waiting.specs.declared.WaitingPhase.TheVariants.{Wait}

abbrev pub waiting_limit : Waiting → ℕ
waiting_limit u = 1 + min u.more 999

abbrev pub waiting_turn : Waiting → ℕ → ℕ → WaitingPhase → ℕ → ℕ → Turn WaitingPhase
waiting_turn u s v (Wait i) x c = if nat_lt (i + 1) (waiting_limit u) then On (Wait (i + 1)) else End (Adopt v)

abbrev pub waiting_conciliator : Protocol Waiting WaitingPhase
waiting_conciliator = record {
  stations = λ u. u.stations;
  limit = waiting_limit;
  registers = λ u. 1;
  ratifying = false;
  question = λ u. None;
  begun = Wait 0;
  plan = λ u s v ph. Read 0;
  turn = waiting_turn;
}
