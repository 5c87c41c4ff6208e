-- The invariant of the quorum ratifier, over any quorum table.
--
-- A mark is a CANDIDATE if the preference register holds it, or if some station has settled on it: found the register empty and
-- will write its own mark there, or took the mark that it found. Every outcome's mark is a candidate.
--
-- 1. A candidate was proposed, and its whole write set is written. For a station settles on its own mark only after it wrote
--    that mark's write set, and on another mark only after one did so that had settled on it before.
-- 2. Once the preference register is full, no further mark becomes a candidate: from then on a station settles on what it finds
--    there, and what is written there is a mark that its station had settled on before.
-- 3. A station that prefers p begins to read the read set of p when the preference register is full. So every candidate that there
--    will ever be is one already, and its write set is written. If it is not p, the table gives its write set a register in common
--    with the read set of p. As long as the station finds registers empty, the common one is still ahead of it.
-- 4. A station that has found the whole read set empty has none ahead of it. So p is the only candidate, and remains the only one:
--    the station may commit p, and every outcome has the mark p.
-- 5. A register of the pool that is not empty is in the write set of a proposed mark. None in the read set of p is in the write set
--    of p. So a station that finds one full, and adopts p, shows that another mark than p was proposed.
use Rattle.std.specs.Prelude.{◌≡◌, ℕ, ◌+◌, ◌<◌, ◌≤◌, ◌≢◌, ◌⊎◌, List, length, slice_index, slice_index_or, slice_set}
use Rattle.std.proofs.Common.{subst, inl, inr, arith}
use Rattle.deciding.specs.declared.record.Outcome.TheVariants.{Adopt, Commit}
use Rattle.machine.specs.declared.status.Status.{Status}
use Rattle.machine.specs.declared.status.Status.TheVariants.{Absent, Running, Done}
use Rattle.quorum.specs.declared.QuorumPhase.{QuorumPhase}
use Rattle.quorum.specs.declared.QuorumPhase.TheVariants.{WriteSet, ReadPreference, WritePreference, ReadSet}
use Rattle.deciding.specs.Laws.{Proposes, Ends, mark, marks}
use Rattle.machine.specs.Protocol.{shown}
use Rattle.tables.specs.Table.{Table, Member}
use Rattle.quorum.specs.Ratifier.{step_limit}
use Rattle.machine.specs.Stations.{each_set, Proposed, proposed_set, proposed_own}

abbrev pub Row : Type 0
Row = Status QuorumPhase

-- WHAT A ROW SAYS

-- its station has settled on w
abbrev pub Settled : Row → ℕ → Type 0
Settled Absent w = ⊥
Settled (Running v k (WriteSet i)) w = ⊥
Settled (Running v k ReadPreference) w = ⊥
Settled (Running v k WritePreference) w = v ≡ w
Settled (Running v k (ReadSet p i)) w = p ≡ w
Settled (Done v k o) w = mark o ≡ w

module _ (q : Table) where
  -- the proposal is a mark, the index is one of the set, and the steps are those of the phase
  abbrev pub InRange : Row → Type 0
  InRange Absent = Unit {0}
  InRange (Running v k (WriteSet i)) = (v < marks) × (i < q.write_size) × (k ≡ i)
  InRange (Running v k ReadPreference) = (v < marks) × (k ≡ q.write_size)
  InRange (Running v k WritePreference) = (v < marks) × (k ≡ q.write_size + 1)
  InRange (Running v k (ReadSet p i)) = (v < marks) × (i < q.read_size) × (k ≤ q.write_size + 2 + i)
  InRange (Done v k o) = (v < marks) × (1 ≤ k) × (k ≤ step_limit q)

  -- before it settles: it has written the first i registers of the write set of v
  abbrev pub HasWritten : Row → ℕ → ℕ → Type 0
  HasWritten Absent w j = ⊥
  HasWritten (Running v k (WriteSet i)) w j = (v ≡ w) × (i ≡ j)
  HasWritten (Running v k ReadPreference) w j = (v ≡ w) × (q.write_size ≡ j)
  HasWritten (Running v k WritePreference) w j = ⊥
  HasWritten (Running v k (ReadSet p i)) w j = ⊥
  HasWritten (Done v k o) w j = ⊥

  -- it prefers w, and has found the first j registers of the read set of w empty
  abbrev pub FoundEmpty : Row → ℕ → ℕ → Type 0
  FoundEmpty Absent w j = ⊥
  FoundEmpty (Running v k (WriteSet i)) w j = ⊥
  FoundEmpty (Running v k ReadPreference) w j = ⊥
  FoundEmpty (Running v k WritePreference) w j = ⊥
  FoundEmpty (Running v k (ReadSet p i)) w j = (p ≡ w) × (i ≡ j)
  FoundEmpty (Done v k (Commit u)) w j = (u ≡ w) × (q.read_size ≡ j)
  FoundEmpty (Done v k (Adopt u)) w j = ⊥

  -- WHAT THE REGISTERS SAY

  -- the content of the preference register
  abbrev pub preferred : List ℕ → ℕ
  preferred xs = slice_index xs q.pool_size

  -- the first i registers of the write set of v are written
  abbrev pub Announced : List ℕ → ℕ → ℕ → Type 0
  Announced xs v i = (j : ℕ) → j < i → slice_index xs (slice_index (q.write_set v) j) ≢ 0

  -- the read set of p has a register of the write set of w, at the index i or later
  pub record Ahead (w p i : ℕ) : Type 0 where
    pub index : ℕ
    pub later : i ≤ index
    pub below : index < q.read_size
    pub common : Member (slice_index (q.read_set p) index) (q.write_set w)

  -- the preference register holds w, or some station has settled on it
  abbrev pub Candidate : List ℕ → List Row → ℕ → Type 0
  Candidate xs t w = (preferred xs ≡ w + 1) ⊎ ((s : ℕ) × Settled (slice_index_or t s Absent) w)

  -- OF A ROW, where C says which marks are candidates and P which are proposals
  pub record RowHolds (xs : List ℕ) (C P : ℕ → Type 0) (row : Row) : Type 0 where
    pub in_range : InRange row
    pub written : (v i : ℕ) → HasWritten row v i → Announced xs v i
    -- points 3 and 4
    pub full : (p i : ℕ) → FoundEmpty row p i → preferred xs ≢ 0
    pub ahead : (p i : ℕ) → FoundEmpty row p i → (w : ℕ) → C w → w ≢ p → Ahead w p i
    -- point 5
    pub adopts : (u : ℕ) → Ends (shown row) (Adopt u) → (w : ℕ) × P w × (w ≢ u)

  -- THE INVARIANT
  pub record Invariant (xs : List ℕ) (t : List Row) : Type 0 where
    pub rows : (s : ℕ) → RowHolds xs (Candidate xs t) (Proposed t) (slice_index_or t s Absent)
    -- point 1
    pub candidates : (w : ℕ) → Candidate xs t w → Proposed t w × Announced xs w q.write_size
    -- point 5
    pub owned : (r : ℕ) → r < q.pool_size → slice_index xs r ≢ 0 → (w : ℕ) × Proposed t w × Member r (q.write_set w)

  -- a row goes on to hold while registers only fill, more is proposed, and no candidate is new once the preference register is full
  holds_on : (xs xs' : List ℕ) (C C' P P' : ℕ → Type 0) (row : Row) →
      ((r : ℕ) → slice_index xs r ≢ 0 → slice_index xs' r ≢ 0) → (preferred xs ≢ 0 → (w : ℕ) → C' w → C w) → ((w : ℕ) → P w → P' w) →
      RowHolds xs C P row → RowHolds xs' C' P' row
  holds_on xs xs' C C' P P' row fills fewer more h = grind (arith, fills, fewer, more, h.written, h.full, h.ahead, h.adopts)

  -- ONE STATION MOVES, that of the proposal v: the contents become xs' and its row becomes `row`.

  -- Point 2: what may be a candidate then is a mark that was one, or, if the preference register was empty, v with its write set written.
  abbrev pub Known : List ℕ → List ℕ → List Row → ℕ → ℕ → Type 0
  Known xs xs' t v w = Candidate xs t w ⊎ ((preferred xs ≡ 0) × (w ≡ v) × Announced xs' v q.write_size)

  pub record Moves (xs xs' : List ℕ) (t : List Row) (s v : ℕ) (row : Row) : Type 1 where
    pub proposed : (w : ℕ) → Proposes (shown (slice_index_or t s Absent)) w → v ≡ w
    pub proposes : Proposes (shown row) v
    pub fills : (r : ℕ) → slice_index xs r ≢ 0 → slice_index xs' r ≢ 0
    pub filled : (r : ℕ) → r < q.pool_size → slice_index xs' r ≢ 0 → (slice_index xs r ≢ 0) ⊎ Member r (q.write_set v)
    pub prefers : (w : ℕ) → preferred xs' ≡ w + 1 → Known xs xs' t v w
    pub settles : (w : ℕ) → Settled row w → Known xs xs' t v w
    pub holds : (C P : ℕ → Type 0) → ((w : ℕ) → C w → Known xs xs' t v w) → ((w : ℕ) → Proposed t w → P w) → RowHolds xs' C P row

  module _ (xs xs' : List ℕ) (t : List Row) (s v : ℕ) (row : Row) (there : s < length t) (inv : Invariant xs t) (move : Moves xs xs' t s v row) where
    abbrev t' : List Row
    t' = slice_set t s row

    own : Proposed t' v
    own = proposed_own t s row v there move.proposes

    more : (w : ℕ) → Proposed t w → Proposed t' w
    more = proposed_set t s row there (λ w e. subst (Proposes (shown row)) (move.proposed w e) move.proposes)

    settled : (j w : ℕ) → Settled (slice_index_or t' j Absent) w → Known xs xs' t v w
    settled = each_set (λ r. (w : ℕ) → Settled r w → Known xs xs' t v w) t s row Absent there move.settles (λ j w e. inl (inr (j, e)))

    known : (w : ℕ) → Candidate xs' t' w → Known xs xs' t v w
    known w c = grind (arith, move.prefers w, settled)

    fewer : preferred xs ≢ 0 → (w : ℕ) → Candidate xs' t' w → Candidate xs t w
    fewer full w c = grind (arith, known w c)

    pub moved : Invariant xs' (slice_set t s row)
    moved = record {
      rows = each_set (RowHolds xs' (Candidate xs' t') (Proposed t')) t s row Absent there
          (move.holds (Candidate xs' t') (Proposed t') known more)
          (λ j. holds_on xs xs' (Candidate xs t) (Candidate xs' t') (Proposed t) (Proposed t') (slice_index_or t j Absent) move.fills fewer more (inv.rows j));
      candidates = λ w c. grind (arith, known w c, inv.candidates w, more, move.fills, own);
      owned = λ r below full. grind (arith, move.filled r below full, inv.owned r below, more, own);
    }
