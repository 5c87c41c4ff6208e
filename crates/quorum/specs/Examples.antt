-- Worked examples of the quorum ratifier: its limits over both tables, and runs over bit pairs on a board of 17 empty registers.
use Rattle.std.specs.Prelude.{◌≡◌, ℕ, zero, suc, List, [], ◌∷◌, replicate, Some, None}
use Rattle.refusal.specs.declared.Refusal.TheVariants.{TooFewRegisters}
use Rattle.deciding.specs.declared.record.Record.TheVariants.{UnderWay, Answered}
use Rattle.deciding.specs.declared.record.Outcome.TheVariants.{Adopt, Commit}
use Rattle.tables.specs.declared.bit_pairs.BitPairs.{BitPairs}
use Rattle.quorum.specs.declared.Quorum.{Quorum}
use Rattle.quorum.specs.declared.QuorumPhase.{QuorumPhase}
use Rattle.deciding.specs.Machine.{Machine}
use Rattle.deciding.specs.Refusable.{refusable, where_made}
use Rattle.machine.specs.Protocol.{Protocol, machine_of}
use Rattle.machine.specs.Making.{made}
use Rattle.tables.specs.BitPairs.{bit_pairs}
use Rattle.tables.specs.HalfSets.{half_sets}
use Rattle.quorum.specs.Ratifier.{quorum, step_limit}

abbrev pub limits : List ℕ
limits = step_limit bit_pairs ∷ step_limit half_sets ∷ []

abbrev ratifier : Protocol (Quorum BitPairs) QuorumPhase
ratifier = quorum BitPairs bit_pairs

abbrev machine : Machine
machine = refusable (machine_of ratifier)

abbrev made_on : ℕ → machine.State
made_on registers = made ratifier (record { stations = 2; table = record {} }) (replicate registers 0)

-- so many steps of one station
abbrev steps : ℕ → ℕ → machine.State → machine.State
steps zero s x = x
steps (suc k) s x = steps k s (machine.step x s 0).next

-- station 0 has entered with mark 5, and no other station
abbrev alone : machine.State
alone = machine.enter (made_on 17) 0 5

-- after it has answered, station 1 enters with mark 4
abbrev later : machine.State
later = machine.enter (steps 18 0 alone) 1 4

pub record Examples : Type 0 where
  pub both_limits : limits ≡ 18 ∷ 13 ∷ []
  pub seventeen_registers : (machine.refused (made_on 17) ≡ None) × (machine.refused (made_on 16) ≡ Some TooFewRegisters)
  -- eight writes, the preference register read and written, eight reads
  pub alone_before : machine.record_of (steps 17 0 alone) 0 ≡ UnderWay 5 17
  pub alone_commits : machine.record_of (steps 18 0 alone) 0 ≡ Answered 5 18 (Commit 5)
  -- the write set of 5 is written, and its mark
  pub alone_contents : where_made (λ x. x.contents) [] (steps 18 0 alone) ≡ 0 ∷ 1 ∷ 1 ∷ 0 ∷ 0 ∷ 1 ∷ 1 ∷ 0 ∷ 1 ∷ 0 ∷ 1 ∷ 0 ∷ 1 ∷ 0 ∷ 1 ∷ 0 ∷ 6 ∷ []
  -- Register 0 is the first of the read set of 5, and station 1 has written it itself.
  pub later_before : machine.record_of (steps 9 1 later) 1 ≡ UnderWay 4 9
  pub later_adopts : machine.record_of (steps 10 1 later) 1 ≡ Answered 4 10 (Adopt 5)
