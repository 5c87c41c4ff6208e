-- The six piles that an N can ask for.
use Rattle.std.specs.Prelude.{◌≡◌, ℕ, true, List, replicate, None, nat_lt}
use Rattle.board.specs.Cards.{contents_of}
use Rattle.deciding.specs.Machine.{Machine}
use Rattle.deciding.specs.Deciding.{Deciding}
use Rattle.deciding.specs.Refusable.{refusable, refusable_deciding}
use Rattle.deciding.specs.Sizes.{one_to_sixteen}
use Rattle.machine.specs.Protocol.{Protocol, machine_of}
use Rattle.machine.specs.Kept.{Kept}
use Rattle.machine.specs.Making.{made}
use Rattle.machine.specs.Frame.{kept_deciding, made_reached}
use Rattle.collect.specs.Ratifier.{collect}
use Rattle.collect.specs.Kept.{collect_kept}
use Rattle.conciliators.specs.Coin.{coin_conciliator}
use Rattle.conciliators.specs.CoinKept.{coin_kept}
use Rattle.conciliators.specs.Leader.{leader_conciliator}
use Rattle.conciliators.specs.LeaderKept.{leader_kept}
use Rattle.quorum.specs.Ratifier.{quorum}
use Rattle.quorum.specs.Kept.{quorum_kept}
use Rattle.tables.specs.declared.bit_pairs.BitPairs.{BitPairs}
use Rattle.tables.specs.declared.half_sets.HalfSets.{HalfSets}
use Rattle.tables.specs.BitPairs.{bit_pairs}
use Rattle.tables.specs.BitPairsLawful.{bit_pairs_lawful}
use Rattle.tables.specs.HalfSets.{half_sets}
use Rattle.tables.specs.HalfSetsLawful.{half_sets_lawful}
use Rattle.schedule.specs.declared.pile.Pile.{Pile}
use Rattle.schedule.specs.declared.pile.Pile.TheVariants as name
use Rattle.sequence.specs.Joint.{joint}
use Rattle.sequence.specs.JointDeciding.{joint_deciding}
use Rattle.sequence.specs.Making.{sequence_made, sequence_made_reached}
use Rattle.trial.specs.declared.call.Call.{Call}
use Rattle.trial.specs.Perform.{AllSmall, trial_refusal}
use Rattle.trial.specs.Trials.{LawfulTrial}

-- a deciding object, and its state when new
pub record Built : Type 1 where
  pub machine : Machine
  pub deciding : Deciding machine
  pub start : machine.State
  pub reached : deciding.Reached start

-- one machine, on a board with these contents
abbrev pub one_machine : {Setup Phase : Type 0} (p : Protocol Setup Phase) {Meets : Phase → ℕ → Type 0} → Kept p Meets → Setup → List ℕ → Built
one_machine p kept u xs = record { machine = refusable (machine_of p); deciding = kept_deciding p kept; start = made p u xs; reached = made_reached p kept u xs }

-- one after another
abbrev pub in_sequence : Built → Built → Built
in_sequence a b = record {
  machine = refusable (joint a.machine b.machine);
  deciding = refusable_deciding (joint a.machine b.machine) (joint_deciding a.machine b.machine a.deciding b.deciding);
  start = sequence_made a.machine b.machine a.start b.start;
  reached = sequence_made_reached a.machine b.machine a.deciding b.deciding a.start b.start a.reached b.reached;
}

-- the contents of a new cell board, and of a cleared card of 34 bytes, which has 17 registers
abbrev pub cells : List ℕ
cells = replicate 64 0

abbrev pub card : List ℕ
card = contents_of (replicate 34 0)

-- each machine, of so many stations
abbrev pub collect_pile : ℕ → Built
collect_pile n = one_machine collect collect_kept (record { stations = n }) cells

abbrev pub coin_pile : ℕ → Built
coin_pile n = one_machine coin_conciliator coin_kept (record { stations = n }) cells

abbrev pub leader_pile : ℕ → ℕ → Built
leader_pile n leader = one_machine leader_conciliator leader_kept (record { stations = n; leader = leader }) cells

abbrev pub bit_pairs_pile : ℕ → List ℕ → Built
bit_pairs_pile n xs = one_machine (quorum BitPairs bit_pairs) (quorum_kept BitPairs bit_pairs bit_pairs_lawful) (record { stations = n; table = record {} }) xs

abbrev pub half_sets_pile : ℕ → Built
half_sets_pile n = one_machine (quorum HalfSets half_sets) (quorum_kept HalfSets half_sets half_sets_lawful) (record { stations = n; table = record {} }) cells

-- THE PILES, of so many stations with this leader
unfoldable pub built : Pile → ℕ → ℕ → Built
built name.Collect n leader = collect_pile n
built name.Quorum n leader = bit_pairs_pile n card
built name.CoinCollect n leader = in_sequence (coin_pile n) (collect_pile n)
built name.LeaderQuorum n leader = in_sequence (leader_pile n leader) (half_sets_pile n)
built name.CollectCoinQuorum n leader = in_sequence (collect_pile n) (in_sequence (coin_pile n) (bit_pairs_pile n cells))
built name.QuorumLeaderCoinCollect n leader = in_sequence (in_sequence (half_sets_pile n) (leader_pile n leader)) (in_sequence (coin_pile n) (collect_pile n))

-- whatever calls are put to a trial of whatever pile, its answers and its records obey the law of runs
abbrev pub PilesLawful : Type 0
PilesLawful = (p : Pile) (n leader : ℕ) (calls : List Call) → AllSmall calls → let d = built p n leader in LawfulTrial d.machine d.start calls

-- with 1 to 16 stations and a leader among them, every pile is made, and so is its trial, with that many stations
abbrev pub PilesMade : Type 0
PilesMade = (p : Pile) (n leader : ℕ) → one_to_sixteen n ≡ true → nat_lt leader n ≡ true →
    let d = built p n leader in (trial_refusal d.machine d.start ≡ None) × (d.machine.stations d.start ≡ n)
