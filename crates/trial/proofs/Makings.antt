-- The making of a trial: where its questions pass, the pile inside is made and all its records are away.
use Rattle.std.proofs.Common.{◌≡◌, ℕ, true, List, Some, None, Option, refl, arith}
use Rattle.refusal.specs.declared.Refusal.{Refusal}
use Rattle.deciding.specs.declared.record.Record.TheVariants.{Away}
use Rattle.deciding.specs.Away.{all_away}
use Rattle.deciding.specs.Sizes.{one_to_sixteen}
use Rattle.deciding.specs.Machine.{Machine}
use Rattle.deciding.specs.Deciding.{Deciding}
use Rattle.deciding.specs.Questions.{all_are_away}
use Rattle.deciding.specs.Refusable.{refusable, refusable_deciding, sizes_where_made, RefusableReached, with_refusal}
use Rattle.trial.specs.declared.call.Call.{Call}
use Rattle.trial.specs.Perform.{AllSmall, trial_refusal}
use Rattle.trial.specs.Trials.{LawfulTrial}
use Rattle.trial.proofs.LawOfRuns.{lawful}

module _ (m : Machine) (d : Deciding m) (x : m.State) (reached : d.Reached x) where
  -- what the making leaves is reached, refused or not, and all its records are away
  pub trial_reached : (q : Option Refusal) → q ≡ trial_refusal m x → RefusableReached m d (with_refusal x q)
  trial_reached (Some r) e = tt
  trial_reached None e =
      let is : trial_refusal m x ≡ None = cc in
      let small : one_to_sixteen (m.stations x) ≡ true = grind arith in
      record { reached = reached; sizes = sizes_where_made m d x reached small }

  pub trial_away : (q : Option Refusal) → q ≡ trial_refusal m x → (s : ℕ) → (refusable m).record_of (with_refusal x q) s ≡ Away
  trial_away (Some r) e s = refl
  trial_away None e s =
      let is : trial_refusal m x ≡ None = cc in
      let small : one_to_sixteen (m.stations x) ≡ true = grind arith in
      let away : all_away (m.record_of x) 16 ≡ true = grind arith in
      all_are_away m d x reached small away s

  -- the law of runs, of every object that is reached
  pub lawful_trial : (calls : List Call) → AllSmall calls → LawfulTrial m x calls
  lawful_trial calls small =
      lawful (refusable m) (refusable_deciding m d) (with_refusal x (trial_refusal m x))
      (trial_reached (trial_refusal m x) refl) (trial_away (trial_refusal m x) refl) calls small
