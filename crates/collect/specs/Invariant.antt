-- The invariant of the collect ratifier, over what there is to see of each station: its row and its two registers.
-- It speaks of one station at a time and of two stations at a time; docs/PROOF.md tells the argument in prose.
use Rattle.std.specs.Prelude.{◌≡◌, ℕ, ◌+◌, ◌*◌, ◌<◌, true, false, ◌⊎◌, Some}
use Rattle.std.proofs.Common.{sym, inl, inr, arith}
use Rattle.deciding.specs.declared.record.Outcome.{Outcome}
use Rattle.deciding.specs.declared.record.Outcome.TheVariants.{Adopt, Commit}
use Rattle.machine.specs.declared.status.Status.{Status}
use Rattle.machine.specs.declared.status.Status.TheVariants.{Absent, Running, Done}
use Rattle.collect.specs.declared.CollectPhase.{CollectPhase}
use Rattle.collect.specs.declared.CollectPhase.TheVariants.{WriteMark, ReadMarks, WriteVote, ReadVotes}
use Rattle.deciding.specs.Laws.{Proposes, Ends, mark, marks}
use Rattle.machine.specs.Protocol.{shown}
use Rattle.collect.specs.Ratifier.{full, half}

abbrev pub Row : Type 0
Row = Status CollectPhase

-- what there is to see of a station: its row, the content of its mark register and that of its vote register
pub record View : Type 0 where
  pub row : Row
  pub mark_register : ℕ
  pub vote_register : ℕ

-- the station of this row proposed x
abbrev pub RowProposes : Row → ℕ → Type 0
RowProposes row x = Proposes (shown row) x

-- WHAT A ROW SAYS, where n is the number of stations

-- the number of its steps is that of its phase
abbrev pub Placed : ℕ → Row → Type 0
Placed n Absent = Unit {0}
Placed n (Running v k WriteMark) = k ≡ 0
Placed n (Running v k (ReadMarks i agree)) = (i < n) × (k ≡ i + 1)
Placed n (Running v k (WriteVote agree)) = k ≡ n + 1
Placed n (Running v k (ReadVotes i clean found)) = (i < n) × (k ≡ n + i + 2)
Placed n (Done v k o) = k ≡ 2 * n + 2

-- the content that its mark register has to have
abbrev pub mark_content : Row → ℕ
mark_content Absent = 0
mark_content (Running v k WriteMark) = 0
mark_content (Running v k (ReadMarks i agree)) = v + 1
mark_content (Running v k (WriteVote agree)) = v + 1
mark_content (Running v k (ReadVotes i clean found)) = v + 1
mark_content (Done v k o) = v + 1

-- Its mark is x, all marks that it has read were x, and it has read the mark of station b. Once it has voted, its vote,
-- here `vote`, tells that it agreed with all.
abbrev pub AgreesPast : Row → ℕ → ℕ → ℕ → Type 0
AgreesPast Absent vote b x = ⊥
AgreesPast (Running v k WriteMark) vote b x = ⊥
AgreesPast (Running v k (ReadMarks i agree)) vote b x = (v ≡ x) × (agree ≡ true) × (b < i)
AgreesPast (Running v k (WriteVote agree)) vote b x = (v ≡ x) × (agree ≡ true)
AgreesPast (Running v k (ReadVotes i clean found)) vote b x = (v ≡ x) × (vote ≡ full x)
AgreesPast (Done v k o) vote b x = (v ≡ x) × (vote ≡ full x)

-- it has read a mark or a vote that is not a full one for its own mark
abbrev pub SawOther : Row → Type 0
SawOther Absent = ⊥
SawOther (Running v k WriteMark) = ⊥
SawOther (Running v k (ReadMarks i agree)) = agree ≡ false
SawOther (Running v k (WriteVote agree)) = agree ≡ false
SawOther (Running v k (ReadVotes i clean found)) = clean ≡ false
SawOther (Done v k o) = (u : ℕ) × (o ≡ Adopt u)

-- it has read the vote of station b
abbrev pub VotesPast : Row → ℕ → Type 0
VotesPast Absent b = ⊥
VotesPast (Running v k WriteMark) b = ⊥
VotesPast (Running v k (ReadMarks i agree)) b = ⊥
VotesPast (Running v k (WriteVote agree)) b = ⊥
VotesPast (Running v k (ReadVotes i clean found)) b = b < i
VotesPast (Done v k o) b = Unit {0}

-- it has read the vote of station b, all votes that it has read were full ones for its mark, and that is x
abbrev pub CleanPast : Row → ℕ → ℕ → Type 0
CleanPast Absent b x = ⊥
CleanPast (Running v k WriteMark) b x = ⊥
CleanPast (Running v k (ReadMarks i agree)) b x = ⊥
CleanPast (Running v k (WriteVote agree)) b x = ⊥
CleanPast (Running v k (ReadVotes i clean found)) b x = (v ≡ x) × (clean ≡ true) × (b < i)
CleanPast (Done v k o) b x = o ≡ Commit x

-- the first full vote that it has read is for x
abbrev pub FirstFull : Row → ℕ → Type 0
FirstFull Absent x = ⊥
FirstFull (Running v k WriteMark) x = ⊥
FirstFull (Running v k (ReadMarks i agree)) x = ⊥
FirstFull (Running v k (WriteVote agree)) x = ⊥
FirstFull (Running v k (ReadVotes i clean found)) x = found ≡ Some x
FirstFull (Done v k o) x = ⊥

-- its outcome has the mark x, or will have, unless it commits its own
abbrev pub TakesMark : Row → ℕ → Type 0
TakesMark Absent x = ⊥
TakesMark (Running v k WriteMark) x = ⊥
TakesMark (Running v k (ReadMarks i agree)) x = ⊥
TakesMark (Running v k (WriteVote agree)) x = ⊥
TakesMark (Running v k (ReadVotes i clean found)) x = found ≡ Some x
TakesMark (Done v k o) x = mark o ≡ x

-- WHAT SOME STATION DID: proposed x; voted full for x; and two of them proposed different marks
pub record Proposed (n : ℕ) (w : ℕ → View) (x : ℕ) : Type 0 where
  pub by : ℕ
  pub below : by < n
  pub proposes : RowProposes (w by).row x

pub record FullVote (n : ℕ) (w : ℕ → View) (x : ℕ) : Type 0 where
  pub by : ℕ
  pub below : by < n
  pub votes : (w by).vote_register ≡ full x

pub record TwoMarks (n : ℕ) (w : ℕ → View) : Type 0 where
  pub one : ℕ
  pub two : ℕ
  pub first : Proposed n w one
  pub second : Proposed n w two
  pub apart : one ≡ two → ⊥

-- The content that the vote register of a row has to have. A half vote is cast only where two marks were proposed.
abbrev pub VoteContent : ℕ → (ℕ → View) → Row → ℕ → Type 0
VoteContent n w Absent vote = vote ≡ 0
VoteContent n w (Running v k WriteMark) vote = vote ≡ 0
VoteContent n w (Running v k (ReadMarks i agree)) vote = vote ≡ 0
VoteContent n w (Running v k (WriteVote agree)) vote = vote ≡ 0
VoteContent n w (Running v k (ReadVotes i clean found)) vote = (vote ≡ full v) ⊎ ((vote ≡ half v) × TwoMarks n w)
VoteContent n w (Done v k o) vote = (vote ≡ full v) ⊎ ((vote ≡ half v) × TwoMarks n w)

-- OF ONE STATION s, whose view is q; w has the views of all
pub record Single (n : ℕ) (w : ℕ → View) (s : ℕ) (q : View) : Type 0 where
  pub small : (x : ℕ) → RowProposes q.row x → x < marks
  pub placed : Placed n q.row
  pub mark_register : q.mark_register ≡ mark_content q.row
  pub vote_register : VoteContent n w q.row q.vote_register
  -- who read another mark, or adopts, shows that two marks were proposed
  pub saw_other : SawOther q.row → TwoMarks n w
  -- who found all votes full for its mark, its own among them, voted full
  pub clean : (x : ℕ) → CleanPast q.row s x → q.vote_register ≡ full x
  -- what it found is a full vote
  pub found : (x : ℕ) → FirstFull q.row x → FullVote n w x
  -- its own full vote decides its outcome
  pub takes : (x : ℕ) → VotesPast q.row s → q.vote_register ≡ full x → TakesMark q.row x
  -- its outcome's mark was proposed
  pub valid : (o : Outcome) → Ends (shown q.row) o → Proposed n w (mark o)

-- A station with the view q respects the full vote of station a for x: it has voted full for x too, or it comes out with x
-- once it has read the vote of a.
abbrev pub Respects : ℕ → View → ℕ → Type 0
Respects a q x = (q.vote_register ≡ full x) ⊎ (VotesPast q.row a → TakesMark q.row x)

-- OF TWO STATIONS a and b, whose views are p and q: it is symmetric, and holds of a view beside itself
pub record Pair (a b : ℕ) (p q : View) : Type 0 where
  -- two that agreed with all they read, and read each other's mark, have one mark: whoever wrote its mark second read the other
  pub agree : (x y : ℕ) → AgreesPast p.row p.vote_register b x → AgreesPast q.row q.vote_register a y → x ≡ y
  -- if one found only full votes for x, its own among them, and read the other's, then the other respects that
  pub respects : (x : ℕ) → CleanPast p.row b x → p.vote_register ≡ full x → Respects a q x
  pub respected : (x : ℕ) → CleanPast q.row a x → q.vote_register ≡ full x → Respects b p x

pub record StationHolds (n : ℕ) (w : ℕ → View) (s : ℕ) (q : View) : Type 0 where
  pub single : Single n w s q
  pub pair : (j : ℕ) → j < n → Pair s j q (w j)

-- THE INVARIANT
pub record Invariant (n : ℕ) (w : ℕ → View) : Type 0 where
  pub station : (s : ℕ) → s < n → StationHolds n w s (w s)

pub agrees_mark : (row : Row) (vote b x : ℕ) → AgreesPast row vote b x → mark_content row ≡ x + 1
agrees_mark row vote b x h = grind arith

-- two stations, the other way round, and a view beside itself
swapped : {a b : ℕ} {p q : View} → Pair a b p q → Pair b a q p
swapped h = record { agree = λ x y k l. sym (h.agree y x l k); respects = h.respected; respected = h.respects }

alone : (a b : ℕ) (p : View) → Pair a b p p
alone a b p = grind arith

-- ONE STATION MOVES: its view becomes p, and what it had proposed and voted it still proposes and votes. Then the invariant
-- holds again, if it holds of p beside the others as they were.
module _ (n : ℕ) (w w' : ℕ → View) (s : ℕ) (p : View) (inv : Invariant n w) (station : StationHolds n w s p)
    (proposes : (x : ℕ) → RowProposes (w s).row x → RowProposes p.row x)
    (votes : (x : ℕ) → (w s).vote_register ≡ full x → p.vote_register ≡ full x)
    (came : (j : ℕ) → j < n → ((j ≡ s) × (w' j ≡ p)) ⊎ (w' j ≡ w j)) where
  proposed_on : (x : ℕ) → Proposed n w x → Proposed n w' x
  proposed_on x h = record {
    by = h.by;
    below = h.below;
    proposes = grind (arith, came h.by h.below, proposes x);
  }

  full_on : (x : ℕ) → FullVote n w x → FullVote n w' x
  full_on x h = record {
    by = h.by;
    below = h.below;
    votes = grind (arith, came h.by h.below, votes x);
  }

  two_on : TwoMarks n w → TwoMarks n w'
  two_on h = record { one = h.one; two = h.two; first = proposed_on _ h.first; second = proposed_on _ h.second; apart = h.apart }

  voted_on : (row : Row) (vote : ℕ) → VoteContent n w row vote → VoteContent n w' row vote
  voted_on row vote h = grind (arith, two_on)

  single_on : (j : ℕ) (q : View) → Single n w j q → Single n w' j q
  single_on j q h = search (voted_on, two_on, full_on, proposed_on, h.saw_other, h.found, h.valid)

  -- what held of a station beside the others as they were holds beside them as they are now
  holds_on : (b : ℕ) (q : View) → StationHolds n w b q → Pair b s q p → StationHolds n w' b q
  holds_on b q old new = record {
    single = single_on b q old.single;
    pair = λ j below. grind (arith, came j below, old.pair j below);
  }

  pub moved : Invariant n w'
  moved = record {
    station = λ b below. elim (came b below) [
      | inl (e, is) ↦ rw (is, e) (holds_on s p station (alone s s p))
      | inr is ↦ rw is (holds_on b (w b) (inv.station b below) (swapped (station.pair b below)))
    ];
  }
