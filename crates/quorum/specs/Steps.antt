-- Every call of the quorum ratifier keeps its invariant: a new machine, an accepted enter, and a step from each phase.
use Rattle.std.specs.Prelude.{◌≡◌, ℕ, ◌+◌, ◌-◌, ◌<◌, if◌then◌else◌, ◌≢◌, List, length, set, ◌==◌, nat_lt, slice_index, slice_index_or, slice_set, refl}
use Rattle.std.proofs.Common.{sym, inl, inr, arith}
use Rattle.std.proofs.lemmas.Grind.{common_steps}
use Rattle.std.proofs.lemmas.Bool.Decides.{nat_tests}
use Rattle.std.proofs.lemmas.List.{get_or-set_same, get_or-set_other}
use Rattle.machine.specs.declared.status.Status.TheVariants.{Absent, Running}
use Rattle.quorum.specs.declared.QuorumPhase.{QuorumPhase}
use Rattle.quorum.specs.declared.QuorumPhase.TheVariants.{WriteSet, ReadPreference, WritePreference, ReadSet}
use Rattle.deciding.specs.Laws.{Proposes, marks}
use Rattle.machine.specs.Protocol.{shown, status_after}
use Rattle.tables.specs.Table.{Table, Member, Lawful}
use Rattle.quorum.specs.Ratifier.{quorum_turn, step_limit}
use Rattle.machine.specs.Stations.{Proposed, Fits, fits_small}
use Rattle.quorum.specs.Invariant.{Row, Settled, preferred, Announced, Ahead, Candidate, RowHolds, Invariant, Known, moved}

module _ (q : Table) where
  pub new_holds : (xs : List ℕ) (t : List Row) → ((i : ℕ) → i < q.pool_size + 1 → slice_index xs i ≡ 0) → ((s : ℕ) → slice_index_or t s Absent ≡ Absent) → Invariant q xs t
  new_holds xs t empty absent = record {
    rows = λ s. rw (absent s) (grind arith);
    candidates = λ w c. grind (arith, empty q.pool_size, absent);
    owned = λ r below full. absurd (full (empty r (omega arith)));
  }

  module _ (law : Lawful q) (xs : List ℕ) (t : List Row) (inv : Invariant q xs t) where
    pub fits : (s : ℕ) → Fits (step_limit q) (Proposed t) (slice_index_or t s Absent)
    fits s =
        let in_range = (inv.rows s).in_range in
        let valid = λ (w : ℕ) (e : Settled (slice_index_or t s Absent) w). (inv.candidates w (inr (s, e))).0 in
        grind (arith, valid)

    pub candidate_small : (w : ℕ) → Candidate q xs t w → w < marks
    candidate_small w c = let (j, e) = (inv.candidates w c).0 in fits_small (step_limit q) (Proposed t) (slice_index_or t j Absent) w (fits j) e

    -- both sets of a mark have a register
    sizes : (0 < q.write_size) × (0 < q.read_size)
    sizes =
        let (r, written, read) = law.meet 0 1 (omega arith) (omega arith) (omega arith) in
        (omega (arith, written.below, (law.writes 0 (omega arith)).sized), omega (arith, read.below, (law.reads 1 (omega arith)).sized))

    -- before the first read every other candidate is ahead
    all_ahead : (p w : ℕ) → p < marks → Candidate q xs t w → w ≢ p → Ahead q w p 0
    all_ahead p w small c other =
        let (r, written, read) = law.meet w p (candidate_small w c) small (λ e. other (sym e)) in
        record { index = read.index; later = omega arith; below = omega (arith, read.below, (law.reads p small).sized); common = rw read.is written }

    module _ (s : ℕ) (there : s < length t) where
      -- the registers stay as they are
      kept_read : (v : ℕ) (row : Row) → ((w : ℕ) → Proposes (shown (slice_index_or t s Absent)) w → v ≡ w) → Proposes (shown row) v →
          ((w : ℕ) → Settled row w → Known q xs xs t v w) →
          ((C P : ℕ → Type 0) → ((w : ℕ) → C w → Known q xs xs t v w) → ((w : ℕ) → Proposed t w → P w) → RowHolds q xs C P row) →
          Invariant q xs (slice_set t s row)
      kept_read v row proposed proposes settles holds = moved q xs xs t s v row there inv (record {
        proposed = proposed;
        proposes = proposes;
        fills = λ r full. full;
        filled = λ r below full. inl full;
        prefers = λ w e. inl (inl e);
        settles = settles;
        holds = holds;
      })

      pub enter_holds : (v : ℕ) → v < marks → slice_index_or t s Absent ≡ Absent → Invariant q xs (slice_set t s (Running v 0 (WriteSet 0)))
      enter_holds v small absent =
          let sized = sizes.0 in
          kept_read v (Running v 0 (WriteSet 0)) (λ w e. absurd (rw absent at e)) refl (λ w e. absurd e) (λ C P known more. grind arith)

      module _ (v k : ℕ) where
        -- the station is under way, in this phase
        abbrev At : QuorumPhase → Type 0
        At ph = slice_index_or t s Absent ≡ Running v k ph

        here : (ph : QuorumPhase) → At ph → RowHolds q xs (Candidate q xs t) (Proposed t) (Running v k ph)
        here ph is = rw is at (inv.rows s)

        mine : (ph : QuorumPhase) → At ph → (w : ℕ) → Settled (Running v k ph) w → Candidate q xs t w
        mine ph is w e = inr (s, rw is e)

        was : (ph : QuorumPhase) → At ph → (w : ℕ) → Proposes (shown (slice_index_or t s Absent)) w → v ≡ w
        was ph is w e = rw is at e

        -- IT WRITES one more register of its write set
        module _ (i : ℕ) (room : q.pool_size < length xs) (is : At (WriteSet i)) where
          abbrev r : ℕ
          r = slice_index (q.write_set v) i

          old : RowHolds q xs (Candidate q xs t) (Proposed t) (Running v k (WriteSet i))
          old = here (WriteSet i) is

          set_of_own : Member r (q.write_set v)
          set_of_own = record { index = i; below = omega (arith, old.in_range, (law.writes v old.in_range.0).sized); is = refl }

          below : r < q.pool_size
          below = (law.writes v old.in_range.0).below i old.in_range.1

          announced : Announced q (slice_set xs r 1) v (i + 1)
          announced j l = grind (arith, common_steps, old.written v i (refl, refl) j)

          pub write_set_kept : Invariant q (slice_set xs r 1) (slice_set t s (Running v (k + 1) (if nat_lt (i + 1) q.write_size then WriteSet (i + 1) else ReadPreference)))
          write_set_kept = moved q xs (slice_set xs r 1) t s v _ there inv (record {
            proposed = was (WriteSet i) is;
            proposes = refl;
            fills = λ j full. grind (arith, common_steps);
            filled = λ j _ full. grind (arith, common_steps, set_of_own);
            prefers = λ w e. inl (grind (arith, get_or-set_other, below));
            settles = λ w e. absurd (grind (arith, nat_tests));
            holds = λ C P known more. let ranged = old.in_range in grind (arith, nat_tests, announced);
          })

        -- IT READS the preference register, and settles on its own mark or on the one that it finds
        pub read_preference_kept : At ReadPreference →
            Invariant q xs (slice_set t s (Running v (k + 1) (if preferred q xs == 0 then WritePreference else ReadSet (preferred q xs - 1) 0)))
        read_preference_kept is =
            let settling = here ReadPreference is in
            let all = settling.written v q.write_size (refl, refl) in
            let ranged = settling.in_range in
            let sized = sizes.1 in
            let p = preferred q xs - 1 in
            kept_read v _ (was ReadPreference is) refl (λ w e. grind (arith, nat_tests, all)) (λ C P known more. grind (arith, nat_tests, all_ahead p, known, candidate_small p))

        -- IT WRITES its own mark to the preference register
        pub write_preference_kept : q.pool_size < length xs → At WritePreference → Invariant q (slice_set xs q.pool_size (v + 1)) (slice_set t s (Running v (k + 1) (ReadSet v 0)))
        write_preference_kept room is =
            let xs' = set xs q.pool_size (v + 1) in
            let old = here WritePreference is in
            let written : preferred q xs' ≡ v + 1 = get_or-set_same xs q.pool_size (v + 1) 0 room in
            moved q xs xs' t s v _ there inv (record {
              proposed = was WritePreference is;
              proposes = refl;
              fills = λ j full. grind (arith, common_steps);
              filled = λ r below full. inl (grind (arith, get_or-set_other));
              prefers = λ w e. inl (mine WritePreference is w (omega arith));
              settles = λ w e. inl (mine WritePreference is w e);
              holds = λ C P known more. let sized = sizes.1 in let ranged = old.in_range in grind (arith, all_ahead v, known);
            })

        -- IT READS one more register of its preference's read set
        module _ (p i : ℕ) (is : At (ReadSet p i)) where
          abbrev x : ℕ
          x = slice_index xs (slice_index (q.read_set p) i)

          reading : RowHolds q xs (Candidate q xs t) (Proposed t) (Running v k (ReadSet p i))
          reading = here (ReadSet p i) is

          preference : Candidate q xs t p
          preference = mine (ReadSet p i) is p refl

          small : p < marks
          small = candidate_small p preference

          -- a register that is empty is not the common one
          still_ahead : x ≡ 0 → (w : ℕ) → Known q xs xs t v w → w ≢ p → Ahead q w p (i + 1)
          still_ahead empty w known other =
              let c : Candidate q xs t w = grind (arith, reading.full p i) in
              let a = reading.ahead p i (refl, refl) w c other in
              let full = (inv.candidates w c).1 a.common.index in
              let sized = (law.writes w (candidate_small w c)).sized in
              record { index = a.index; later = grind (arith, a.later, a.common); below = a.below; common = a.common }

          -- a register that is full is in the write set of another proposal
          another : x ≢ 0 → (w : ℕ) × Proposed t w × (w ≢ p)
          another full =
              let reads = law.reads p small in
              let (w, proposed, member) = inv.owned (slice_index (q.read_set p) i) (reads.below i reading.in_range.1) full in
              let read : Member (slice_index (q.read_set p) i) (q.read_set p) = record { index = i; below = omega (arith, reads.sized, reading.in_range); is = refl } in
              (w, proposed, λ e. law.apart p _ small (rw e at member) read)

          pub read_set_kept : Invariant q xs (slice_set t s (status_after v k (quorum_turn q v (ReadSet p i) x)))
          read_set_kept =
              let ranged = reading.in_range in
              kept_read v _ (was (ReadSet p i) is) (grind (arith, nat_tests)) (λ w e. grind (arith, nat_tests, preference))
              (λ C P known more. grind (arith, nat_tests, reading.full p i, still_ahead, known, another, more))
