-- What the invariant of a protocol says of each station's row, and the laws that follow from that alone.
use Rattle.std.specs.Prelude.{◌≡◌, ℕ, ◌<◌, ◌≤◌, Bool, true, false, List, length, slice_index_or, slice_set}
use Rattle.std.proofs.Common.{arith}
use Rattle.std.proofs.lemmas.List.{get_or-set_same, get_or-set_other}
use Rattle.std.proofs.lemmas.Bool.{cases_eq}
use Rattle.deciding.specs.declared.record.Outcome.{Outcome}
use Rattle.deciding.specs.declared.record.Outcome.TheVariants.{Adopt, Commit}
use Rattle.deciding.specs.declared.record.Record.{Record}
use Rattle.machine.specs.declared.status.Status.{Status}
use Rattle.machine.specs.declared.status.Status.TheVariants.{Absent, Running, Done}
use Rattle.deciding.specs.Laws.{Laws, Proposes, Ends, mark, marks}
use Rattle.machine.specs.Protocol.{shown}

-- what holds of each element holds after one is set, if it holds of the new one
pub each_set : {A : Type 0} (P : A → Type 0) (l : List A) (s : ℕ) (x d : A) → s < length l → P x →
    ((j : ℕ) → P (slice_index_or l j d)) → (j : ℕ) → P (slice_index_or (slice_set l s x) j d)
each_set P l s x d there here others j = grind (arith, cases_eq j s, get_or-set_same l s x d there, get_or-set_other l s j x d, here, others j)

module _ {Phase : Type 0} where
  -- some station proposed v
  abbrev pub Proposed : List (Status Phase) → ℕ → Type 0
  Proposed t v = (s : ℕ) × Proposes (shown (slice_index_or t s Absent)) v

  -- proposals remain when a row is set, if that of the row does
  pub proposed_set : (t : List (Status Phase)) (s : ℕ) (row : Status Phase) → s < length t →
      ((v : ℕ) → Proposes (shown (slice_index_or t s Absent)) v → Proposes (shown row) v) → (v : ℕ) → Proposed t v → Proposed (slice_set t s row) v
  proposed_set t s row there same v (j, proposes) =
      (j, grind (arith, cases_eq j s, get_or-set_same t s row Absent there, get_or-set_other t s j row Absent, same v, proposes))

  pub proposed_own : (t : List (Status Phase)) (s : ℕ) (row : Status Phase) (v : ℕ) → s < length t → Proposes (shown row) v → Proposed (slice_set t s row) v
  proposed_own t s row v there proposes = (s, rw (get_or-set_same t s row Absent there) proposes)

  -- a proposal is a mark, the steps are within the limit, and P holds of the outcome's mark
  abbrev pub Fits : ℕ → (ℕ → Type 0) → Status Phase → Type 0
  Fits limit P Absent = Unit {0}
  Fits limit P (Running v k ph) = (v < marks) × (k < limit)
  Fits limit P (Done v k o) = (v < marks) × (1 ≤ k) × (k ≤ limit) × P (mark o)

  pub fits_more : (limit : ℕ) (P Q : ℕ → Type 0) → ((v : ℕ) → P v → Q v) → (row : Status Phase) → Fits limit P row → Fits limit Q row
  fits_more limit P Q more row fits = grind (arith, more)

  pub fits_small : (limit : ℕ) (P : ℕ → Type 0) (row : Status Phase) (v : ℕ) → Fits limit P row → Proposes (shown row) v → v < marks
  fits_small limit P row v fits e = grind arith

  -- the laws, where every row fits: coherence and what is said of ratifying are left to the protocol
  pub laws_of : (limit : ℕ) (ratifying : Bool) (t : List (Status Phase)) → let record_of : ℕ → Record = λ s. shown (slice_index_or t s Absent) in
      ((s : ℕ) → Fits limit (Proposed t) (slice_index_or t s Absent)) →
      ((s j u : ℕ) (o : Outcome) → Ends (record_of s) (Commit u) → Ends (record_of j) o → mark o ≡ u) →
      (ratifying ≡ true → (v : ℕ) → ((j w : ℕ) → Proposes (record_of j) w → w ≡ v) → (s : ℕ) (o : Outcome) → Ends (record_of s) o → o ≡ Commit (mark o)) →
      (ratifying ≡ false → (s : ℕ) (o : Outcome) → Ends (record_of s) o → o ≡ Adopt (mark o)) →
      Laws limit ratifying record_of
  laws_of limit ratifying t fits coherent ratifies never = record {
    small = λ s v. fits_small limit (Proposed t) (slice_index_or t s Absent) v (fits s);
    valid = λ s o e. grind (arith, fits s);
    coherent = coherent;
    bounded = λ s v k e. grind (arith, fits s);
    bounded_end = λ s v k o e. grind (arith, fits s);
    ratifies = ratifies;
    never = never;
  }
