-- THE WHOLE PROMISE ABOUT RUNS, in one place: in whatever order the stations step and whichever stop, and whatever calls are
-- refused in between, the answers and the records obey the law of runs (Law.antt of the crate trial).
--
-- It is stated of everything that can be made of the four machines, on boards with any contents, over any quorum table, and of
-- sequences of such to any depth; and of the six piles that a schedule can ask for. Of every other deciding object it is the
-- contract of trial::rehearsal::rehearse that says so.
use Rattle.std.specs.Prelude.{ℕ, List}
use Rattle.collect.specs.Ratifier.{collect}
use Rattle.collect.specs.Kept.{collect_kept}
use Rattle.conciliators.specs.Coin.{coin_conciliator}
use Rattle.conciliators.specs.CoinKept.{coin_kept}
use Rattle.conciliators.specs.Leader.{leader_conciliator}
use Rattle.conciliators.specs.LeaderKept.{leader_kept}
use Rattle.quorum.specs.Ratifier.{quorum}
use Rattle.quorum.specs.Kept.{quorum_kept}
use Rattle.tables.specs.Table.{Table, Lawful}
use Rattle.trial.specs.declared.call.Call.{Call}
use Rattle.trial.specs.Perform.{AllSmall}
use Rattle.trial.specs.Trials.{LawfulTrial}
use Rattle.rehearsal.specs.Piles.{Built, one_machine, in_sequence, PilesLawful}

-- What a pile can be made of: a machine of so many stations on a board with these contents, or one pile after another.
pub data Composition : Type 0 where
  collect_on : (stations : ℕ) → List ℕ → Composition
  quorum_on : (q : Table) → Lawful q → (stations : ℕ) → List ℕ → Composition
  coin_on : (stations : ℕ) → List ℕ → Composition
  leader_on : (stations leader : ℕ) → List ℕ → Composition
  first_then : Composition → Composition → Composition

abbrev pub composed : Composition → Built
composed (collect_on n xs) = one_machine collect collect_kept (record { stations = n }) xs
composed (quorum_on q law n xs) = one_machine (quorum (Unit {0}) q) (quorum_kept (Unit {0}) q law) (record { stations = n; table = record {} }) xs
composed (coin_on n xs) = one_machine coin_conciliator coin_kept (record { stations = n }) xs
composed (leader_on n l xs) = one_machine leader_conciliator leader_kept (record { stations = n; leader = l }) xs
composed (first_then a b) = in_sequence (composed a) (composed b)

pub record Agreement : Type 0 where
  pub every_composition : (c : Composition) (calls : List Call) → AllSmall calls → let d = composed c in LawfulTrial d.machine d.start calls
  pub six_piles : PilesLawful
