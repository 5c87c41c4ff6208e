-- The invariant of the quorum ratifier is kept by every call and gives the four laws, over any quorum table.
use Rattle.std.specs.Prelude.{◌≡◌, ℕ, ◌+◌, ◌-◌, ◌<◌, true, List, length, slice_index_or, slice_set}
use Rattle.std.proofs.Common.{inl, inr, arith}
use Rattle.std.proofs.lemmas.Bool.{true≢false}
use Rattle.deciding.specs.declared.record.Outcome.{Outcome}
use Rattle.deciding.specs.declared.record.Outcome.TheVariants.{Commit}
use Rattle.machine.specs.declared.status.Status.TheVariants.{Absent, Running}
use Rattle.quorum.specs.declared.QuorumPhase.{QuorumPhase}
use Rattle.quorum.specs.declared.QuorumPhase.TheVariants.{WriteSet, ReadPreference, WritePreference, ReadSet}
use Rattle.deciding.specs.Laws.{Laws, Proposes, Ends, mark}
use Rattle.machine.specs.Protocol.{shown, register_of, content_of, contents_after, status_after}
use Rattle.machine.specs.Kept.{Kept}
use Rattle.tables.specs.Table.{Table, Lawful}
use Rattle.tables.specs.Sizes.{sizes_fit}
use Rattle.quorum.specs.Ratifier.{quorum, quorum_meets, quorum_plan, quorum_turn, step_limit}
use Rattle.machine.specs.Stations.{laws_of}
use Rattle.quorum.specs.Invariant.{Row, Settled, FoundEmpty, preferred, Candidate, Invariant}
use Rattle.quorum.specs.Steps.{new_holds, enter_holds, write_set_kept, read_preference_kept, write_preference_kept, read_set_kept, fits, candidate_small}

module _ (q : Table) (law : Lawful q) (xs : List ℕ) (t : List Row) (inv : Invariant q xs t) where
  -- THE LAWS
  -- an outcome's mark is a candidate
  ended : (s : ℕ) (o : Outcome) → Ends (shown (slice_index_or t s Absent)) o → Candidate q xs t (mark o)
  ended s o e = inr (s, (grind arith))

  -- who commits has no other candidate ahead
  coherence : (s j u : ℕ) (o : Outcome) → Ends (shown (slice_index_or t s Absent)) (Commit u) → Ends (shown (slice_index_or t j Absent)) o → mark o ≡ u
  coherence s j u o e f =
      let ahead = λ (found : FoundEmpty q (slice_index_or t s Absent) u q.read_size). (inv.rows s).ahead u q.read_size found (mark o) (ended j o f) in
      grind (arith, ahead)

  commits : (v : ℕ) → ((j w : ℕ) → Proposes (shown (slice_index_or t j Absent)) w → w ≡ v) → (s : ℕ) (o : Outcome) → Ends (shown (slice_index_or t s Absent)) o → o ≡ Commit (mark o)
  commits v same s o e =
      let preferred = (inv.candidates (mark o) (ended s o e)).0 in
      grind (arith, (inv.rows s).adopts, same)

  laws : Laws (step_limit q) true (λ s. shown (slice_index_or t s Absent))
  laws = laws_of (step_limit q) true t (fits q law xs t inv) coherence (λ _. commits) (λ e. absurd (true≢false e))

  -- what the preference register holds is a mark
  met : (v : ℕ) (ph : QuorumPhase) → quorum_meets ph (content_of xs (quorum_plan q v ph))
  met v ph =
      let small = λ (w : ℕ) (e : preferred q xs ≡ w + 1). candidate_small q law xs t inv w (inl e) in
      grind (arith, small (preferred q xs - 1))

  module _ (s v k : ℕ) where
    planned : (ph : QuorumPhase) → slice_index_or t s Absent ≡ Running v k ph → register_of (quorum_plan q v ph) < q.pool_size + 1
    planned ph is =
        let in_range = rw is at (inv.rows s).in_range in
        let read = λ (p : ℕ) (e : Settled (Running v k ph) p). (law.reads p (candidate_small q law xs t inv p (inr (s, rw is e)))).below in
        grind (arith, law.writes v, read)

    stepped : (ph : QuorumPhase) → s < length t → q.pool_size < length xs → slice_index_or t s Absent ≡ Running v k ph →
        let plan = quorum_plan q v ph in
        Invariant q (contents_after xs plan) (slice_set t s (status_after v k (quorum_turn q v ph (content_of xs plan))))
    stepped (WriteSet i) there room is = write_set_kept q law xs t inv s there v k i room is
    stepped ReadPreference there room is = read_preference_kept q law xs t inv s there v k is
    stepped WritePreference there room is = write_preference_kept q law xs t inv s there v k room is
    stepped (ReadSet p i) there room is = read_set_kept q law xs t inv s there v k p i is

pub quorum_kept : (Q : Type 0) (q : Table) → Lawful q → Kept (quorum Q q) quorum_meets
quorum_kept Q q law = record {
  Inv = λ u. Invariant q;
  new = λ u xs t fitting. new_holds q xs t;
  enter_kept = λ u xs t s v fitting inv below. enter_holds q law xs t inv s (omega arith) v;
  step_kept = λ u xs t s c v k ph fitting inv below. stepped q law xs t inv s v k ph (omega arith) (omega arith);
  meets = λ u xs t s v k ph inv below is. met q law xs t inv v ph;
  below = λ u xs t s v k ph inv below. planned q law xs t inv s v k ph;
  within = λ u some few. let fit = sizes_fit q law in ((omega arith, omega (arith, law.small)), (omega arith, omega (arith, law.small)));
  gives = λ u xs t fitting past inv. laws q law xs t inv;
}
