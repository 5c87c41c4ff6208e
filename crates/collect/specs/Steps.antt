-- Each step of the collect ratifier: what held of its station before the step holds of it after.
use Rattle.std.specs.Prelude.{◌≡◌, ℕ, ◌+◌, ◌<◌, ◌≤◌, Bool, true, false, ◌&&◌, Some, None, Option, refl}
use Rattle.std.proofs.Common.{inl, inr, arith}
use Rattle.std.proofs.lemmas.Bool.Decides.{nat_tests}
use Rattle.deciding.specs.declared.record.Outcome.{Outcome}
use Rattle.machine.specs.declared.status.Status.TheVariants.{Absent, Running, Done}
use Rattle.collect.specs.declared.CollectPhase.{CollectPhase}
use Rattle.collect.specs.declared.CollectPhase.TheVariants.{WriteMark, ReadMarks, WriteVote, ReadVotes}
use Rattle.deciding.specs.Laws.{mark, marks}
use Rattle.collect.specs.Ratifier.{full, vote, fits, found_in, verdict}
use Rattle.collect.specs.Invariant.{Row, View, AgreesPast, CleanPast, Proposed, FullVote, TwoMarks, Pair, StationHolds, Invariant, agrees_mark}
use Rattle.collect.specs.Facts.{found_keeps, found_full, found_from, verdict_commit, verdict_adopt, verdict_mark, verdict_takes, mark_differs, read_voted, vote_differs, others, full_once, full_proposed, differ}

abbrev pub view_of : Row → ℕ → ℕ → View
view_of row sign vote = record { row = row; mark_register = sign; vote_register = vote }

-- station s with another row, and its registers as they are
abbrev pub with_row : (ℕ → View) → ℕ → Row → View
with_row w s row = view_of row (w s).mark_register (w s).vote_register

module _ (n : ℕ) (w : ℕ → View) (s : ℕ) where
  pub absent_holds : (sign vote : ℕ) → sign ≡ 0 → vote ≡ 0 → StationHolds n w s (view_of Absent sign vote)
  absent_holds sign vote e f = grind arith

module _ (n : ℕ) (w : ℕ → View) (s : ℕ) (inv : Invariant n w) (below : s < n) where
  now : (row : Row) → (w s).row ≡ row → StationHolds n w s (with_row w s row)
  now row is = rw is at (inv.station s below)

  pub enter_holds : (v : ℕ) → v < marks → (w s).row ≡ Absent → StationHolds n w s (with_row w s (Running v 0 WriteMark))
  enter_holds v small is = let old = (now Absent is).single in grind arith

  module _ (v k : ℕ) where
    own : (ph : CollectPhase) → (w s).row ≡ Running v k ph → Proposed n w v
    own ph is = record { by = s; below = below; proposes = rw is refl }

    pub mark_holds : (w s).row ≡ Running v k WriteMark → StationHolds n w s (view_of (Running v (k + 1) (ReadMarks 0 true)) (v + 1) (w s).vote_register)
    mark_holds is = let old = (now (Running v k WriteMark) is).single in grind arith

    -- it reads the mark of station i
    module _ (i : ℕ) (agree : Bool) (is : (w s).row ≡ Running v k (ReadMarks i agree)) where
      abbrev agree' : Bool
      agree' = agree && fits (v + 1) (w i).mark_register

      marking : StationHolds n w s (with_row w s (Running v k (ReadMarks i agree)))
      marking = now (Running v k (ReadMarks i agree)) is

      mark_there : i < n
      mark_there = marking.single.placed.0

      mark_saw_other : agree' ≡ false → TwoMarks n w
      mark_saw_other e =
          let seen = marking.single.saw_other in
          let differs = mark_differs (w i).row (w i).mark_register v (others n w inv i mark_there).mark_register in
          grind (arith, λ (x : ℕ). differ n w inv v x i (own (ReadMarks i agree) is) mark_there)

      mark_agrees : (j y : ℕ) → j < n → agree' ≡ true → j < i + 1 → AgreesPast (w j).row (w j).vote_register s y → v ≡ y
      mark_agrees j y near e past agrees = grind (arith, nat_tests, (marking.pair j near).agree v y, (others n w inv j near).mark_register, agrees_mark (w j).row (w j).vote_register s y agrees)

      pub read_on : i + 1 < n → StationHolds n w s (with_row w s (Running v (k + 1) (ReadMarks (i + 1) agree')))
      read_on more = let old = marking.single in grind (arith, mark_saw_other, mark_agrees)

      pub read_out : n ≤ i + 1 → StationHolds n w s (with_row w s (Running v (k + 1) (WriteVote agree')))
      read_out all = let old = marking.single in grind (arith, mark_saw_other, mark_agrees)

    -- it votes
    pub vote_holds : (agree : Bool) → (w s).row ≡ Running v k (WriteVote agree) → StationHolds n w s (view_of (Running v (k + 1) (ReadVotes 0 true None)) (w s).mark_register (vote agree v))
    vote_holds agree is = let old = now (Running v k (WriteVote agree)) is in grind arith

    -- it reads the vote of station i
    module _ (i : ℕ) (clean : Bool) (found : Option ℕ) (is : (w s).row ≡ Running v k (ReadVotes i clean found)) where
      abbrev clean' : Bool
      clean' = clean && fits (full v) (w i).vote_register

      abbrev found' : Option ℕ
      found' = found_in found (w i).vote_register

      abbrev next : Row
      next = Running v (k + 1) (ReadVotes (i + 1) clean' found')

      voting : StationHolds n w s (with_row w s (Running v k (ReadVotes i clean found)))
      voting = now (Running v k (ReadVotes i clean found)) is

      vote_there : i < n
      vote_there = voting.single.placed.0

      -- what it has found is a full vote
      vote_found : (x : ℕ) → found' ≡ Some x → FullVote n w x
      vote_found x e = elim (found_from found (w i).vote_register x e) [
        | inl f ↦ voting.single.found x f
        | inr f ↦ record { by = i; below = vote_there; votes = f }
      ]

      -- it finds a full vote
      vote_finds : (x : ℕ) → (w i).vote_register ≡ full x → found' ≡ Some x
      vote_finds x e =
          let here : FullVote n w x = record { by = i; below = vote_there; votes = e } in
          elim (found_full found (w i).vote_register x e) [
            | inl f ↦ f
            | inr (y, f) ↦ found_keeps found (w i).vote_register x (rw (full_once n w inv y x (voting.single.found y f) here) at f)
          ]

      vote_saw_other : clean' ≡ false → TwoMarks n w
      vote_saw_other e =
          let seen = voting.single.saw_other in
          let differs = vote_differs n w (w i).row (w i).vote_register v (others n w inv i vote_there).vote_register in
          grind (arith, λ (x : ℕ). differ n w inv v x i (own (ReadVotes i clean found) is) vote_there)

      -- its own vote is full, if it is clean past itself
      vote_clean : (x : ℕ) → CleanPast next s x → (w s).vote_register ≡ full x
      vote_clean x h = grind (arith, nat_tests, voting.single.clean v, voting.single.vote_register)

      -- it has found its own vote, if that is full and it is past itself
      vote_takes : (x : ℕ) → s < i + 1 → (w s).vote_register ≡ full x → found' ≡ Some x
      vote_takes x past e = grind (arith, voting.single.takes x, vote_finds x)

      vote_pair : (j : ℕ) → j < n → Pair s j (with_row w s next) (w j)
      vote_pair j near =
          let old = voting.pair j near in
          let voted = (others n w inv j near).vote_register in
          record {
            agree = old.agree;
            respects = λ x h e. grind (arith, nat_tests, old.respects x, read_voted n w (w j).row (w j).vote_register s voted);
            respected = λ x h e. grind (arith, old.respected x, vote_finds x);
          }

      pub look_on : i + 1 < n → StationHolds n w s (with_row w s next)
      look_on more = let old = voting.single in search (arith, vote_saw_other, vote_clean, vote_found, vote_takes, vote_pair)

      -- it was the last
      module _ (all : n ≤ i + 1) where
        abbrev outcome : Outcome
        outcome = verdict v clean' found'

        -- it comes out with the mark of a full vote that it has found
        out_takes : (j x : ℕ) → j < n → (w j).vote_register ≡ full x → found' ≡ Some x → mark outcome ≡ x
        out_takes j x near e f =
            let other : FullVote n w x = record { by = j; below = near; votes = e } in
            let own = λ (t : CleanPast next s v). full_once n w inv v x (record { by = s; below = below; votes = vote_clean v t }) other in
            verdict_takes v clean' found' x (λ t. own (refl, t, omega arith)) f

        out_valid : Proposed n w (mark outcome)
        out_valid = elim (verdict_mark v clean' found') [
          | inl e ↦ rw e (own (ReadVotes i clean found) is)
          | inr e ↦ full_proposed n w inv (mark outcome) (vote_found (mark outcome) e)
        ]

        pub look_out : StationHolds n w s (with_row w s (Done v (k + 1) outcome))
        look_out =
            let old = voting.single in
            record {
              single = record {
                small = old.small;
                placed = omega arith;
                mark_register = old.mark_register;
                vote_register = old.vote_register;
                saw_other = λ (u, e). vote_saw_other (verdict_adopt v clean' found' u e);
                clean = λ x e. let (same, t) = verdict_commit v clean' found' x e in vote_clean x (same, t, omega arith);
                found = λ x h. absurd h;
                takes = λ x _ e. out_takes s x below e (vote_takes x (omega arith) e);
                valid = λ o e. rw e at out_valid;
              };
              pair = λ j near. grind (arith, vote_pair j near, out_takes j);
            }
