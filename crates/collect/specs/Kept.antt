-- The invariant of the collect ratifier holds of a new machine, is kept by enter and step, and gives the four laws.
use Rattle.std.specs.Prelude.{◌≡◌, ℕ, ◌+◌, ◌-◌, ◌*◌, ◌/◌, ◌<◌, ◌≤◌, true, ◌≢◌, ◌⊎◌, List, None, nat_lt, slice_index, slice_index_or, slice_set, refl}
use Rattle.std.proofs.Common.{sym, subst, ◌∙◌, inl, inr, arith}
use Rattle.std.proofs.lemmas.List.{get_or-set_same, get_or-set_other}
use Rattle.std.proofs.lemmas.Bool.{cases_lt, cases_eq, cond_both, ltb-true, ltb-false, true≢false}
use Rattle.deciding.specs.declared.record.Outcome.{Outcome}
use Rattle.deciding.specs.declared.record.Outcome.TheVariants.{Commit}
use Rattle.machine.specs.declared.status.Status.TheVariants.{Absent, Running}
use Rattle.machine.specs.Turn.{Turn}
use Rattle.collect.specs.declared.Collect.{Collect}
use Rattle.collect.specs.declared.CollectPhase.{CollectPhase}
use Rattle.collect.specs.declared.CollectPhase.TheVariants.{WriteMark, ReadMarks, WriteVote, ReadVotes}
use Rattle.deciding.specs.Laws.{Laws, Ends, mark, marks}
use Rattle.machine.specs.Protocol.{shown, content_of, contents_after, status_after}
use Rattle.machine.specs.Kept.{Fitting, Kept}
use Rattle.collect.specs.Ratifier.{full, vote, collect, collect_meets, collect_plan, collect_turn}
use Rattle.collect.specs.Invariant.{Row, View, RowProposes, Placed, SawOther, VoteContent, StationHolds, Invariant, moved}
use Rattle.collect.specs.Steps.{view_of, with_row, absent_holds, enter_holds, mark_holds, read_on, read_out, vote_holds, look_on, look_out}

-- what there is to see of station s, in the contents and the table
abbrev pub view : Collect → List ℕ → List Row → ℕ → View
view u xs t s = record { row = slice_index_or t s Absent; mark_register = slice_index xs s; vote_register = slice_index xs (u.stations + s) }

-- the invariant, of the contents and the table
abbrev pub Holds : Collect → List ℕ → List Row → Type 0
Holds u xs t = Invariant u.stations (view u xs t)

-- THE FOUR LAWS
module _ (n : ℕ) (w : ℕ → View) (past : (s : ℕ) → n ≤ s → (w s).row ≡ Absent) (inv : Invariant n w) where
  -- who is no station does nothing
  ending : (s : ℕ) (o : Outcome) → Ends (shown (w s).row) o → s < n
  ending s o h = grind (arith, past s)

  placed : (s : ℕ) → Placed n (w s).row
  placed s = elim (cases_lt s n) [ inl below ↦ (inv.station s below).single.placed | inr out ↦ rw (past s out) tt ]

  coherence : (s t u : ℕ) (o : Outcome) → Ends (shown (w s).row) (Commit u) → Ends (shown (w t).row) o → mark o ≡ u
  coherence s t u o h k =
      let one = inv.station s (ending s (Commit u) h) in
      let two = inv.station t (ending t o k) in
      grind (arith, (one.pair t (ending t o k)).respects u, one.single.clean u, two.single.takes u)

  commits : (v : ℕ) → ((t x : ℕ) → RowProposes (w t).row x → x ≡ v) → (s : ℕ) (o : Outcome) → Ends (shown (w s).row) o → o ≡ Commit (mark o)
  commits v same s o h =
      let single = (inv.station s (ending s o h)).single in
      let alike = λ (seen : SawOther (w s).row). let two = single.saw_other seen in two.apart (same _ _ two.first.proposes ∙ sym (same _ _ two.second.proposes)) in
      grind (arith, alike)

  laws : Laws (2 * n + 2) true (λ s. shown (w s).row)
  laws = record {
    small = λ s v h. (inv.station s (grind (arith, past s))).single.small v h;
    valid = λ s o h. let p = (inv.station s (ending s o h)).single.valid o h in (p.by, p.proposes);
    coherent = coherence;
    bounded = λ s v k e. grind (arith, placed s);
    bounded_end = λ s v k o e. grind (arith, placed s);
    ratifies = λ _. commits;
    never = λ e. absurd (true≢false e);
  }

-- THE CALLS, on the contents and the table
begun : (u : Collect) (xs : List ℕ) (t : List Row) → ((i : ℕ) → i < 2 * u.stations → slice_index xs i ≡ 0) → ((s : ℕ) → slice_index_or t s Absent ≡ Absent) → Holds u xs t
begun u xs t empty none = record { station = λ s below. rw (none s) (absent_holds u.stations (view u xs t) s _ _ (empty s (omega arith)) (empty (u.stations + s) (omega arith))) }

module _ (u : Collect) (xs : List ℕ) (t : List Row) (s : ℕ)
    (fitting : Fitting collect u xs t) (inv : Holds u xs t) (below : s < u.stations) where
  -- one row changes, and no register of another station
  kept_by : (xs' : List ℕ) (row : Row) (sign vote : ℕ) → slice_index xs' s ≡ sign → slice_index xs' (u.stations + s) ≡ vote →
      ((j : ℕ) → j < u.stations → j ≢ s → (slice_index xs' j ≡ slice_index xs j) × (slice_index xs' (u.stations + j) ≡ slice_index xs (u.stations + j))) →
      ((x : ℕ) → RowProposes (slice_index_or t s Absent) x → RowProposes row x) → ((x : ℕ) → slice_index xs (u.stations + s) ≡ full x → vote ≡ full x) →
      StationHolds u.stations (view u xs t) s (view_of row sign vote) → Holds u xs' (slice_set t s row)
  kept_by xs' row sign vote signs votes others proposes fulls station =
      moved u.stations (view u xs t) (view u xs' (slice_set t s row)) s (view_of row sign vote) inv station proposes fulls came
    where
      came : (j : ℕ) → j < u.stations → ((j ≡ s) × (view u xs' (slice_set t s row) j ≡ view_of row sign vote)) ⊎ (view u xs' (slice_set t s row) j ≡ view u xs t j)
      came j near = elim (cases_eq j s) [
        | inl e ↦ inl (e, rw (e, get_or-set_same t s row Absent (omega arith), signs, votes))
        | inr e ↦ let (same, still) = others j near e in inr (rw (get_or-set_other t s j row Absent e, same, still))
      ]

  -- a read changes the row alone
  kept_read : (row : Row) → ((x : ℕ) → RowProposes (slice_index_or t s Absent) x → RowProposes row x) → StationHolds u.stations (view u xs t) s (with_row (view u xs t) s row) → Holds u xs (slice_set t s row)
  kept_read row proposes station = kept_by xs row _ _ refl refl (λ j near other. (refl, refl)) proposes (λ x e. e) station

  entered : (v : ℕ) → v < marks → slice_index_or t s Absent ≡ Absent → Holds u xs (slice_set t s (Running v 0 WriteMark))
  entered v small away = kept_read (Running v 0 WriteMark) (λ x h. absurd (rw away at h)) (enter_holds u.stations (view u xs t) s inv below v small away)

  module _ (c v k : ℕ) where
    proposed_own : (ph : CollectPhase) → slice_index_or t s Absent ≡ Running v k ph → (x : ℕ) → RowProposes (slice_index_or t s Absent) x → v ≡ x
    proposed_own ph is x h = rw is at h

    stepped : (ph : CollectPhase) → slice_index_or t s Absent ≡ Running v k ph →
        Holds u (contents_after xs (collect_plan u s v ph)) (slice_set t s (status_after v k (collect_turn u s v ph (content_of xs (collect_plan u s v ph)) c)))
    stepped WriteMark is =
        kept_by (slice_set xs s (v + 1)) (Running v (k + 1) (ReadMarks 0 true)) (v + 1) (slice_index xs (u.stations + s))
        (grind (arith, get_or-set_same)) (grind (arith, get_or-set_other)) (λ j near other. grind (arith, get_or-set_other))
        (proposed_own WriteMark is) (λ x e. e)
        (mark_holds u.stations (view u xs t) s inv below v k is)
    stepped (ReadMarks i agree) is =
        cond_both (nat_lt (i + 1) u.stations) _ _ (λ (next : CollectPhase). Holds u xs (slice_set t s (Running v (k + 1) next)))
        (λ e. kept_read _ (proposed_own _ is) (read_on u.stations (view u xs t) s inv below v k i agree is (ltb-true (i + 1) u.stations e)))
        (λ e. kept_read _ (proposed_own _ is) (read_out u.stations (view u xs t) s inv below v k i agree is (ltb-false (i + 1) u.stations e)))
    stepped (WriteVote agree) is =
        let unvoted = rw is at (inv.station s below).single.vote_register in
        let at = u.stations + s in
        kept_by (slice_set xs at (vote agree v)) (Running v (k + 1) (ReadVotes 0 true None)) (slice_index xs s) (vote agree v)
        (grind (arith, get_or-set_other)) (grind (arith, get_or-set_same)) (λ j near other. grind (arith, get_or-set_other))
        (proposed_own (WriteVote agree) is) (λ x e. absurd (omega arith))
        (vote_holds u.stations (view u xs t) s inv below v k agree is)
    stepped (ReadVotes i clean found) is =
        cond_both (nat_lt (i + 1) u.stations) _ _ (λ (turn : Turn CollectPhase). Holds u xs (slice_set t s (status_after v k turn)))
        (λ e. kept_read _ (proposed_own _ is) (look_on u.stations (view u xs t) s inv below v k i clean found is (ltb-true (i + 1) u.stations e)))
        (λ e. kept_read _ (proposed_own _ is) (look_out u.stations (view u xs t) s inv below v k i clean found is (ltb-false (i + 1) u.stations e)))

-- a vote is for a mark
voted_small : (n : ℕ) (w : ℕ → View) (row : Row) (vote : ℕ) → VoteContent n w row vote → ((x : ℕ) → RowProposes row x → x < marks) → vote ≤ 2 * marks
voted_small n w row vote h small = grind (arith, small ((vote - 1) / 2))

met : (u : Collect) (xs : List ℕ) (t : List Row) → Holds u xs t → (s v k : ℕ) (ph : CollectPhase) → Placed u.stations (Running v k ph) → collect_meets ph (content_of xs (collect_plan u s v ph))
met u xs t inv s v k ph placed =
    let small = λ (i : ℕ) (l : i < u.stations). let single = (inv.station i l).single in voted_small _ _ _ _ single.vote_register single.small in
    grind arith

pub collect_kept : Kept collect collect_meets
collect_kept = record {
  Inv = Holds;
  new = λ u xs t fitting. begun u xs t;
  enter_kept = λ u xs t s v fitting inv below. entered u xs t s fitting inv below v;
  step_kept = λ u xs t s c v k ph fitting inv below. stepped u xs t s fitting inv below c v k ph;
  meets = λ u xs t s v k ph inv below is. met u xs t inv s v k ph (subst (Placed u.stations) is (inv.station s below).single.placed);
  within = λ u some few. ((omega arith, omega arith), (omega arith, omega arith));
  below = λ u xs t s v k ph inv below is. let placed = subst (Placed u.stations) is (inv.station s below).single.placed in grind arith;
  gives = λ u xs t fitting past inv. laws u.stations (view u xs t) past inv;
}
