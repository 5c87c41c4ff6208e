-- The worked examples as one set: those of the tables, of the conciliators and of the quorum ratifier, and the sizes of two piles.
use Rattle.std.specs.Prelude.{ℕ, ◌≡◌, List, [], ◌∷◌}
use Rattle.schedule.specs.declared.pile.Pile.TheVariants.{CollectCoinQuorum, QuorumLeaderCoinCollect}
use Rattle.tables.specs.Examples as tables
use Rattle.conciliators.specs.Examples as conciliators
use Rattle.quorum.specs.Examples as quorum
use Rattle.rehearsal.specs.Piles.{Built, built}

abbrev pub limit_of : Built → ℕ
limit_of d = d.machine.limit d.start

abbrev pub registers_of : Built → ℕ
registers_of d = d.machine.registers d.start

abbrev pub sizes : List ℕ
sizes =
    let fifth = built CollectCoinQuorum 1 0 in
    let sixth = built QuorumLeaderCoinCollect 16 0 in
    limit_of fifth ∷ registers_of fifth ∷ limit_of sixth ∷ registers_of sixth ∷ []

pub record WorkedExamples : Type 0 where
  -- the write set of 5, three entries of the half sets
  pub tables : tables.Examples
  -- five limits of the coin conciliator, its third read at n = 4 and c = 6, the leader's three adoptions
  pub conciliators : conciliators.Examples
  -- the steps at which mark 5 commits and a later mark 4 adopts it
  pub quorum : quorum.Examples
  pub piles : sizes ≡ 25 ∷ 20 ∷ 55 ∷ 46 ∷ []
