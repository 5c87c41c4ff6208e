-- One command of a run: what is to come before it, and after it.
use Rattle.std.proofs.Common.{◌≡◌, ℕ, ◌+◌, ◌-◌, ◌≤◌, ltb, List, [], ◌∷◌, length, drop, Some, None, Option, Result, sym, refl, ◌∙◌, inl, inr, append-nil, arith}
use Rattle.std.proofs.lemmas.Bool.{cond-true, cond-false, lt-ltb, le-ltb, cases_lt}
use Rattle.refusal.specs.declared.Refusal.{Refusal}
use Rattle.listing.specs.declared.line.Line.{Line}
use Rattle.listing.specs.declared.line.Line.TheVariants.{Refused}
use Rattle.listing.specs.Over.{over}
use Rattle.listing.specs.Lines.{text}
use Rattle.listing.specs.Puts.{Appends, Stands}
use Rattle.listing.proofs.Overs.{over_none}
use Rattle.schedule.specs.Script.{script, tail}
use Rattle.schedule.specs.Reading.{reading}
use Rattle.schedule.proofs.Scripts.{script_at, script_end}
use Rattle.trial.specs.declared.call.Call.{Call}
use Rattle.trial.specs.Answers.{Answer}
use Rattle.rehearsal.specs.declared.verdict.Verdict.{Verdict}
use Rattle.rehearsal.specs.declared.verdict.Verdict.TheVariants.{Ends, Halts, Refuses, Asks}
use Rattle.rehearsal.specs.Lines.{answer_line, listed}
use Rattle.rehearsal.specs.Responders.{Responder, Heard, in_state}
use Rattle.rehearsal.specs.Runs.{verdict, done}
use Rattle.rehearsal.specs.Serving.{past, Judges, Final, went, finish}

-- what follows a command that ends the run does not matter, and otherwise the command is passed
after : (v : Verdict) (st : Responder) (bs : List ℕ) (p n : ℕ) (bytes : List ℕ) (w : ℕ) →
    went (done v st) (past v p n) bytes w (finish (script (drop (p + n) bs))) ≡ went (done v st) (past v p n) bytes w (finish (script (drop (past v p n) bs)))
after v st bs p n bytes w = grind arith

none_listed : (bytes : List ℕ) (w : ℕ) → (bytes ≡ over bytes w (listed [])) × (w ≡ w + length (listed []))
unfolding listed
none_listed bytes w = (sym (over_none bytes w), omega arith)

turn : (bs : List ℕ) (p : ℕ) (bytes : List ℕ) (w : ℕ) (st : Responder) (r : Verdict) (q : ℕ) → Judges bs p (length bytes - w) r q →
    finish (script (drop p bs)) p bytes w st ≡ went (done r st) q bytes w (finish (script (drop q bs)))
turn bs p bytes w st r q j =
    elim (cases_lt p (length bs)) [
      | inl h ↦
          let x = reading bs p in
          let v = verdict (length bytes - w) x in
          let is : r ≡ v = j.0 ∙ cond-true (ltb p (length bs)) v (Ends None) (lt-ltb p (length bs) h) in
          let size : p + 1 + tail x ≡ p + (1 + tail x) = omega arith in
          rw (j.1, is, script_at bs p h, size) (after v st bs p (1 + tail x) bytes w)
      | inr h ↦
          let is : r ≡ Ends None = j.0 ∙ cond-false (ltb p (length bs)) (verdict (length bytes - w) (reading bs p)) (Ends None) (le-ltb p (length bs) h) in
          let none = none_listed bytes w in
          rw (j.1, is, script_end bs p h, ← none.0, ← none.1) refl
    ]

-- a list of one line
one_listed : (q : Refusal) → listed (Refused q ∷ []) ≡ text (Refused q)
unfolding listed
one_listed q = append-nil (text (Refused q))

-- a line for which there was room was put
pub put_stands : (bs : List ℕ) (at : ℕ) (l : Line) (r : Result (Unit {0}) Refusal) (end : ℕ) (new : List ℕ) → 48 ≤ length bs - at → Appends bs at l r end new → Stands bs at l end new
put_stands bs at l r end new room put = grind arith

-- A run that ends as `whole` tells stands at p, and the next command was judged; `seen` is the schedule after that.
module _ (whole : Final) (bs seen : List ℕ) (p : ℕ) (bytes : List ℕ) (w q : ℕ) (same : seen ≡ bs) where
  pub on : (st : Responder) (r : Verdict) → whole ≡ finish (script (drop p bs)) p bytes w st → Judges bs p (length bytes - w) r q →
      whole ≡ went (done r st) q bytes w (finish (script (drop q seen)))
  on st r here j = rw same (here ∙ turn bs p bytes w st r q j)

  pub on_ends : (st : Responder) (k : Option Refusal) → whole ≡ finish (script (drop p bs)) p bytes w st → Judges bs p (length bytes - w) (Ends k) q →
      whole ≡ record { listing = bytes; consumed = q; written = w; ended = k }
  on_ends st k here j =
      let none = none_listed bytes w in
      rw (← none.0, ← none.1) at (on st (Ends k) here j)

  -- a line was put
  module _ (end : ℕ) (after : List ℕ) where
    pub on_halts : (st : Responder) (k : Refusal) → whole ≡ finish (script (drop p bs)) p bytes w st → Judges bs p (length bytes - w) (Halts k) q →
        Stands bytes w (Refused k) end after → whole ≡ record { listing = after; consumed = q; written = end; ended = Some k }
    on_halts st k here j put = rw (put.after, put.ends) (rw (one_listed k) at (on st (Halts k) here j))

    pub on_refuses : (st : Responder) (k : Refusal) → whole ≡ finish (script (drop p bs)) p bytes w st → Judges bs p (length bytes - w) (Refuses k) q →
        Stands bytes w (Refused k) end after → whole ≡ finish (script (drop q seen)) q after end st
    on_refuses st k here j put = rw (put.after, put.ends) (on st (Refuses k) here j)

    -- a call is answered
    pub on_asks : {X : Type 0} (f : X → Call → Heard X) (x y : X) (c : Call) (a : Answer) (l : Line) → whole ≡ finish (script (drop p bs)) p bytes w (in_state f x) →
        Judges bs p (length bytes - w) (Asks c) q → a ≡ (f x c).answer → y ≡ (f x c).next → l ≡ answer_line c a →
        Stands bytes w l end after → whole ≡ finish (script (drop q seen)) q after end (in_state f y)
    on_asks f x y c a l here j is_a is_y is_l put = rw (is_y, put.after, put.ends, is_l, is_a) (on (in_state f x) (Asks c) here j)
