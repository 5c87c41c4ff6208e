-- Every pile that an N can ask for is made.
use Rattle.std.proofs.Common.{◌≡◌, ℕ, ◌+◌, ◌≤◌, Bool, true, false, ◌||◌, ltb, List, replicate, None, sym, refl, ◌∙◌, arith}
use Rattle.std.proofs.lemmas.Bool.Decides.{nat_tests}
use Rattle.std.proofs.lemmas.Bool.{le-leb, eq-eqb}
use Rattle.deciding.specs.declared.record.Record.TheVariants.{Away}
use Rattle.deciding.specs.Sizes.{one_to_sixteen}
use Rattle.deciding.proofs.AwayTests.{away_all}
use Rattle.machine.specs.Protocol.{Protocol}
use Rattle.machine.specs.Kept.{Kept}
use Rattle.machine.specs.Making.{refusal_of}
use Rattle.machine.proofs.Passing.{passes, fresh_away}
use Rattle.sequence.specs.Making.{sequence_refusal}
use Rattle.collect.specs.Ratifier.{collect}
use Rattle.collect.specs.Kept.{collect_kept}
use Rattle.board.specs.Cards.{contents_of}
use Rattle.conciliators.specs.declared.leader.Leader.{Leader}
use Rattle.conciliators.specs.Coin.{coin_conciliator}
use Rattle.conciliators.specs.CoinKept.{coin_kept}
use Rattle.conciliators.specs.Doublings.{doublings_few}
use Rattle.conciliators.specs.Leader.{leader_conciliator}
use Rattle.conciliators.specs.LeaderKept.{leader_kept}
use Rattle.quorum.specs.declared.Quorum.{Quorum}
use Rattle.quorum.specs.Ratifier.{quorum}
use Rattle.quorum.specs.Kept.{quorum_kept}
use Rattle.tables.specs.declared.bit_pairs.BitPairs.{BitPairs}
use Rattle.tables.specs.declared.half_sets.HalfSets.{HalfSets}
use Rattle.tables.specs.BitPairs.{bit_pairs}
use Rattle.tables.specs.BitPairsLawful.{bit_pairs_lawful}
use Rattle.tables.specs.HalfSets.{half_sets}
use Rattle.tables.specs.HalfSetsLawful.{half_sets_lawful}
use Rattle.schedule.specs.declared.pile.Pile.{Pile}
use Rattle.schedule.specs.declared.pile.Pile.TheVariants as name
use Rattle.trial.specs.Perform.{trial_refusal}
use Rattle.rehearsal.specs.Piles.{Built, one_machine, in_sequence, cells, card, collect_pile, coin_pile, leader_pile, bit_pairs_pile, half_sets_pile, built, PilesMade}

-- a pile was made with n stations, ratifying or not, at most so many steps and registers, and all its records are away
record Ready (n limit registers : ℕ) (ratifying : Bool) (d : Built) : Type 0 where
  stations : d.machine.stations d.start ≡ n
  ratifies : d.machine.ratifying d.start ≡ ratifying
  short : d.machine.limit d.start ≤ limit
  narrow : d.machine.registers d.start ≤ registers
  away : (s : ℕ) → d.machine.record_of d.start s ≡ Away

-- a pile was made of n stations, and its trial too; it is ratifying
pub record ReadyPile (n : ℕ) (d : Built) : Type 0 where
  pub made : trial_refusal d.machine d.start ≡ None
  pub stations : d.machine.stations d.start ≡ n
  pub ratifying : d.machine.ratifying d.start ≡ true

one_ready : {Setup Phase : Type 0} (p : Protocol Setup Phase) {Meets : Phase → ℕ → Type 0} (kept : Kept p Meets) (u : Setup) (xs : List ℕ) {limit registers : ℕ} →
    refusal_of p u xs ≡ None → p.limit u ≤ limit → p.registers u ≤ registers → Ready (p.stations u) limit registers p.ratifying (one_machine p kept u xs)
one_ready p kept u xs passed short narrow = record {
  stations = rw passed refl;
  ratifies = rw passed refl;
  short = rw passed short;
  narrow = rw passed narrow;
  away = λ s. rw passed (fresh_away p u xs s);
}

module _ {n : ℕ} (few : one_to_sixteen n ≡ true) where
  counted : {d : Built} {l r : ℕ} {t : Bool} → Ready n l r t d → one_to_sixteen (d.machine.stations d.start) ≡ true
  counted ready = rw ready.stations few

  sequence_ready : {a b : Built} {l r j k : ℕ} {t u : Bool} → Ready n l r t a → Ready n j k u b → l + j ≤ 1000 → r + k ≤ 1000 → Ready n (l + j) (r + k) (t || u) (in_sequence a b)
  sequence_ready {a = a} {b = b} ready_a ready_b short narrow =
      let m = a.machine in
      let o = b.machine in
      let x = a.start in
      let y = b.start in
      let steps : m.limit x + o.limit y ≤ 1000 = omega (arith, ready_a.short, ready_b.short) in
      let room : m.registers x + o.registers y ≤ 1000 = omega (arith, ready_a.narrow, ready_b.narrow) in
      let passed : sequence_refusal m o x y ≡ None =
      rw (
        counted ready_a,
        counted ready_b,
        eq-eqb (m.stations x) (o.stations y) (ready_a.stations ∙ sym ready_b.stations),
        away_all (m.record_of x) ready_a.away 16,
        away_all (o.record_of y) ready_b.away 16,
        le-leb (m.limit x + o.limit y) 1000 steps,
        le-leb (m.registers x + o.registers y) 1000 room,
      ) refl in
      record {
        stations = rw passed ready_a.stations;
        ratifies = rw (passed, ready_a.ratifies, ready_b.ratifies) refl;
        short = rw passed (omega (arith, ready_a.short, ready_b.short));
        narrow = rw passed (omega (arith, ready_a.narrow, ready_b.narrow));
        away = λ s. rw (passed, ready_a.away s) refl;
      }

  trial_ready : {d : Built} {l r : ℕ} → Ready n l r true d → ReadyPile n d
  trial_ready {d = d} ready = record {
    made = rw (counted ready, away_all (d.machine.record_of d.start) ready.away 16) refl;
    stations = ready.stations;
    ratifying = ready.ratifies;
  }

  at_most : n ≤ 16
  at_most = grind (arith, nat_tests)

  collect_ready : Ready n 34 32 true (collect_pile n)
  collect_ready =
      let most = at_most in
      one_ready collect collect_kept (record { stations = n }) cells (passes collect (record { stations = n }) 64 few refl (omega arith)) (omega arith) (omega arith)

  coin_ready : Ready n 19 1 false (coin_pile n)
  coin_ready =
      let most = at_most in
      one_ready coin_conciliator coin_kept (record { stations = n }) cells (passes coin_conciliator (record { stations = n }) 64 few refl (omega arith)) (omega (arith, doublings_few n)) (omega arith)

  leader_ready : (leader : ℕ) → ltb leader n ≡ true → Ready n 1 1 false (leader_pile n leader)
  leader_ready leader led =
      let u : Leader = record { stations = n; leader = leader } in
      one_ready leader_conciliator leader_kept u cells (passes leader_conciliator u 64 few (rw led refl) (omega arith)) (omega arith) (omega arith)

  bit_pairs_ready : (k : ℕ) → 17 ≤ k → Ready n 18 17 true (bit_pairs_pile n (replicate k 0))
  bit_pairs_ready k room =
      let u : Quorum BitPairs = record { stations = n; table = record {} } in
      one_ready (quorum BitPairs bit_pairs) (quorum_kept BitPairs bit_pairs bit_pairs_lawful) u (replicate k 0) (passes (quorum BitPairs bit_pairs) u k few refl room) (omega arith) (omega arith)

  half_sets_ready : Ready n 13 12 true (half_sets_pile n)
  half_sets_ready =
      let u : Quorum HalfSets = record { stations = n; table = record {} } in
      one_ready (quorum HalfSets half_sets) (quorum_kept HalfSets half_sets half_sets_lawful) u cells (passes (quorum HalfSets half_sets) u 64 few refl (omega arith)) (omega arith) (omega arith)

-- a cleared card is an empty board of 17 registers
card_empty : card ≡ replicate 17 0
unfolding contents_of
card_empty = refl

pub piles_ready : (p : Pile) (n leader : ℕ) → one_to_sixteen n ≡ true → ltb leader n ≡ true → ReadyPile n (built p n leader)
unfolding built
piles_ready name.Collect n leader few led = trial_ready few (collect_ready few)
piles_ready name.Quorum n leader few led = rw card_empty (trial_ready few (bit_pairs_ready few 17 (omega arith)))
piles_ready name.CoinCollect n leader few led = trial_ready few (sequence_ready few (coin_ready few) (collect_ready few) (omega arith) (omega arith))
piles_ready name.LeaderQuorum n leader few led = trial_ready few (sequence_ready few (leader_ready few leader led) (half_sets_ready few) (omega arith) (omega arith))
piles_ready name.CollectCoinQuorum n leader few led =
    let back = sequence_ready few (coin_ready few) (bit_pairs_ready few 64 (omega arith)) (omega arith) (omega arith) in
    trial_ready few (sequence_ready few (collect_ready few) back (omega arith) (omega arith))
piles_ready name.QuorumLeaderCoinCollect n leader few led =
    let front = sequence_ready few (half_sets_ready few) (leader_ready few leader led) (omega arith) (omega arith) in
    let back = sequence_ready few (coin_ready few) (collect_ready few) (omega arith) (omega arith) in
    trial_ready few (sequence_ready few front back (omega arith) (omega arith))

pub piles_made : PilesMade
piles_made p n leader few led = let ready = piles_ready p n leader few led in (ready.made, ready.stations)
