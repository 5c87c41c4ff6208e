-- What the tests, the outcomes and the rows of the collect ratifier tell.
use Rattle.std.specs.Prelude.{◌≡◌, ℕ, ◌+◌, ◌-◌, ◌/◌, ◌<◌, Bool, true, false, ◌⊎◌, Some, Option, ◌≢◌}
use Rattle.std.proofs.Common.{arith}
use Rattle.std.proofs.lemmas.Bool.Decides.{nat_tests}
use Rattle.deciding.specs.declared.record.Outcome.TheVariants.{Adopt, Commit}
use Rattle.deciding.specs.Laws.{mark}
use Rattle.collect.specs.Ratifier.{full, vote, fits, found_in, verdict}
use Rattle.collect.specs.Invariant.{Row, View, RowProposes, mark_content, AgreesPast, VotesPast, Proposed, FullVote, TwoMarks, VoteContent, Single, Invariant}

-- What the test on a content tells: that it is empty or y, or that it is neither.
pub fits_true : (y x : ℕ) → fits y x ≡ true → (x ≡ 0) ⊎ (x ≡ y)
fits_true y x e = grind (arith, nat_tests)

pub fits_false : (y x : ℕ) → fits y x ≡ false → (x ≢ 0) × (x ≢ y)
fits_false y x e = grind (arith, nat_tests)

-- the first full vote found remains that
pub found_keeps : (f : Option ℕ) (x u : ℕ) → f ≡ Some u → found_in f x ≡ Some u
found_keeps f x u e = grind arith

-- a full vote is found, unless one was found before
pub found_full : (f : Option ℕ) (x u : ℕ) → x ≡ full u → (found_in f x ≡ Some u) ⊎ ((v : ℕ) × (f ≡ Some v))
found_full f x u e = grind (arith, nat_tests)

-- What the first full vote found tells: it was found before, or just now.
pub found_from : (f : Option ℕ) (x u : ℕ) → found_in f x ≡ Some u → (f ≡ Some u) ⊎ (x ≡ full u)
found_from f x u e = grind (arith, nat_tests)

-- What an outcome tells: who commits x proposed it, and found all votes full ones for it
pub verdict_commit : (v : ℕ) (c : Bool) (f : Option ℕ) (x : ℕ) → verdict v c f ≡ Commit x → (v ≡ x) × (c ≡ true)
verdict_commit v c f x e = grind arith

-- who adopts found another vote
pub verdict_adopt : (v : ℕ) (c : Bool) (f : Option ℕ) (x : ℕ) → verdict v c f ≡ Adopt x → c ≡ false
verdict_adopt v c f x e = grind arith

-- its mark is the own one, or that of the full vote found
pub verdict_mark : (v : ℕ) (c : Bool) (f : Option ℕ) → (mark (verdict v c f) ≡ v) ⊎ (f ≡ Some (mark (verdict v c f)))
verdict_mark v c f = grind arith

-- and it is that of the full vote found, if a commit would be for that too
pub verdict_takes : (v : ℕ) (c : Bool) (f : Option ℕ) (x : ℕ) → (c ≡ true → v ≡ x) → f ≡ Some x → mark (verdict v c f) ≡ x
verdict_takes v c f x own e = grind (arith, own)

-- What a vote, a row and its registers tell: only who agreed with all votes full
pub vote_full : (agree : Bool) (v x : ℕ) → vote agree v ≡ full x → agree ≡ true
vote_full agree v x e = grind arith

-- the mark with which it agreed is its proposal
pub agrees_proposes : (row : Row) (vote b x : ℕ) → AgreesPast row vote b x → RowProposes row x
agrees_proposes row vote b x h = grind arith

-- a mark that differs from v is another proposal
pub mark_differs : (row : Row) (sign v : ℕ) → sign ≡ mark_content row → fits (v + 1) sign ≡ false → RowProposes row (sign - 1) × (sign - 1 ≢ v)
mark_differs row sign v h e = grind (arith, fits_false (v + 1) sign e)

module _ (n : ℕ) (w : ℕ → View) where
  -- a station that voted full agreed with all
  pub full_agrees : (row : Row) (vote b x : ℕ) → VoteContent n w row vote → vote ≡ full x → AgreesPast row vote b x
  full_agrees row vote b x h e = grind arith

  pub read_voted : (row : Row) (vote b : ℕ) → VoteContent n w row vote → vote ≡ 0 → VotesPast row b → ⊥
  read_voted row vote b h e past_it = grind arith

  -- a vote that is no full vote for v is for another proposal, or of a station that saw another
  pub vote_differs : (row : Row) (vote v : ℕ) → VoteContent n w row vote → fits (full v) vote ≡ false → TwoMarks n w ⊎ (RowProposes row (vote / 2 - 1) × (vote / 2 - 1 ≢ v))
  vote_differs row vote v h e = grind (arith, fits_false (full v) vote e)

module _ (n : ℕ) (w : ℕ → View) (inv : Invariant n w) where
  pub others : (j : ℕ) → j < n → Single n w j (w j)
  others j below = (inv.station j below).single

  -- what a full vote tells of its station
  pub full_agreed : (j b x : ℕ) → j < n → (w j).vote_register ≡ full x → AgreesPast (w j).row (w j).vote_register b x
  full_agreed j b x below e = full_agrees n w (w j).row (w j).vote_register b x (others j below).vote_register e

  -- all full votes are for one mark, and it is a proposal
  pub full_once : (x y : ℕ) → FullVote n w x → FullVote n w y → x ≡ y
  full_once x y h k = ((inv.station h.by h.below).pair k.by k.below).agree x y
      (full_agreed h.by k.by x h.below h.votes) (full_agreed k.by h.by y k.below k.votes)

  pub full_proposed : (x : ℕ) → FullVote n w x → Proposed n w x
  full_proposed x h = record {
    by = h.by;
    below = h.below;
    proposes = agrees_proposes (w h.by).row (w h.by).vote_register 0 x (full_agreed h.by 0 x h.below h.votes);
  }

  -- a proposal other than v, which is proposed too
  pub differ : (v x j : ℕ) → Proposed n w v → j < n → RowProposes (w j).row x → (x ≢ v) → TwoMarks n w
  differ v x j own near proposes apart = record { one = x; two = v; first = record { by = j; below = near; proposes = proposes }; second = own; apart = apart }
