-- The leader conciliator: the leader writes its mark, another station adopts the mark that it finds. One step each.
use Rattle.std.specs.Prelude.{ℕ, ◌+◌, ◌-◌, false, if◌then◌else◌, ◌||◌, Some, None, ◌==◌, nat_lt}
use Rattle.refusal.specs.declared.Refusal.TheVariants.{LeaderOutOfRange}
use Rattle.deciding.specs.declared.record.Outcome.TheVariants.{Adopt}
use Rattle.machine.specs.declared.status.Plan.{Plan}
use Rattle.machine.specs.declared.status.Plan.TheVariants.{Read, Write}
use Rattle.machine.specs.Turn.{Turn, End}
use Rattle.conciliators.specs.declared.leader.Leader.{Leader}
use Rattle.conciliators.specs.declared.leader.LeaderPhase.{LeaderPhase}
use Rattle.conciliators.specs.declared.leader.LeaderPhase.TheVariants.{OnlyStep}
use Rattle.machine.specs.Protocol.{Protocol}

abbrev pub leader_plan : Leader → ℕ → ℕ → LeaderPhase → Plan
leader_plan u s v ph = if s == u.leader then Write 0 (v + 1) else Read 0

-- The mark that station s adopts, with the proposal v, when it met the content x: the leader its own, and so another that
-- finds the register empty. A content other than 0 is a mark and 1.
abbrev pub adopted : Leader → ℕ → ℕ → ℕ → ℕ
adopted u s v x = if s == u.leader || x == 0 then v else x - 1

abbrev pub leader_turn : Leader → ℕ → ℕ → LeaderPhase → ℕ → ℕ → Turn LeaderPhase
leader_turn u s v ph x c = End (Adopt (adopted u s v x))

abbrev pub leader_conciliator : Protocol Leader LeaderPhase
leader_conciliator = record {
  stations = λ u. u.stations;
  limit = λ u. 1;
  registers = λ u. 1;
  ratifying = false;
  question = λ u. if nat_lt u.leader u.stations then None else Some LeaderOutOfRange;
  begun = OnlyStep;
  plan = leader_plan;
  turn = leader_turn;
}
