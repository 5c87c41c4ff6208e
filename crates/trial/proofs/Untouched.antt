-- The law of runs, of a trial of which nothing is known but that its records are away and that nobody was stopped. `held` and
-- `refusable` differ in `refused` alone, which no call asks: they answer alike, and what `held` obeys both do.
use Rattle.std.proofs.Common.{◌≡◌, ℕ, false, List, [], ◌∷◌, Some, None, Option, refl, ap, arith}
use Rattle.refusal.specs.declared.Refusal.{Refusal}
use Rattle.deciding.specs.declared.record.Record.TheVariants.{Away}
use Rattle.deciding.specs.Machine.{Machine}
use Rattle.deciding.specs.Deciding.{Deciding}
use Rattle.deciding.specs.Refusable.{Refusable, refusable, refusable_deciding, with_refusal}
use Rattle.deciding.specs.Held.{held, HeldReached, held_deciding}
use Rattle.trial.specs.declared.call.Call.{Call}
use Rattle.trial.specs.Answers.{Answer}
use Rattle.trial.specs.Perform.{TrialState, AllSmall, perform, answers, last}
use Rattle.trial.proofs.Rehearsing.{Obeys, obeys}

module _ (m : Machine) where
  pub same_answer : (x : TrialState (Refusable m.State)) (c : Call) → (perform (held m) x c).answer ≡ (perform (refusable m) x c).answer
  same_answer x c = grind arith

  pub same_next : (x : TrialState (Refusable m.State)) (c : Call) → (perform (held m) x c).next ≡ (perform (refusable m) x c).next
  same_next x c = grind arith

  pub same_answers : (x : TrialState (Refusable m.State)) (calls : List Call) → answers (held m) x calls ≡ answers (refusable m) x calls
  same_answers x [] = refl
  same_answers x (c ∷ cs) = rw (same_answer x c, same_next x c) (ap {B = List Answer} (λ r. (perform (refusable m) x c).answer ∷ r) (same_answers (perform (refusable m) x c).next cs))

  pub same_last : (x : TrialState (Refusable m.State)) (calls : List Call) → last (held m) x calls ≡ last (refusable m) x calls
  same_last x [] = refl
  same_last x (c ∷ cs) = rw (same_next x c) (same_last (perform (refusable m) x c).next cs)

module _ (m : Machine) (d : Deciding m) where
  -- where the object is reached, so is what the trial shows, refused or not
  pub held_reached : (x : m.State) → d.Reached x → (q : Option Refusal) → HeldReached m d (with_refusal x q)
  held_reached x reached None = reached
  held_reached x reached (Some r) = tt

  -- the law, where calls led from x to y with these answers
  pub held_obeys : (x : TrialState (Refusable m.State)) → HeldReached m d x.object → ((s : ℕ) → (refusable m).record_of x.object s ≡ Away) → ((s : ℕ) → x.stopped s ≡ false) →
      (calls : List Call) → AllSmall calls → (given : List Answer) → given ≡ answers (refusable m) x calls → (y : TrialState (Refusable m.State)) → y ≡ last (refusable m) x calls →
      Obeys (refusable m) (refusable_deciding m d) x calls given y
  held_obeys x reached away none calls small given is y ends =
      let o = obeys (held m) (held_deciding m d) x reached away none calls small in
      record { law = rw (is, ends) (rw (same_answers m x calls, same_last m x calls) at o.law); range = rw is (rw (same_answers m x calls) at o.range) }
