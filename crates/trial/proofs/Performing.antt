-- A call leads from a reached state to a reached state, and so does a list of calls.
use Rattle.std.proofs.Common.{List, [], ◌∷◌, refl, arith}
use Rattle.deciding.specs.Machine.{Machine}
use Rattle.deciding.specs.Deciding.{Deciding}
use Rattle.deciding.specs.Calls.{entering_keeps, stepping_keeps}
use Rattle.trial.specs.declared.call.Call.{Call}
use Rattle.trial.specs.declared.call.Call.TheVariants.{Enter, Step, Stop}
use Rattle.trial.specs.Perform.{TrialState, Small, AllSmall, admitted, perform, last}

module _ (m : Machine) (d : Deciding m) (x : TrialState m.State) (reached : d.Reached x.object) where
  admitted_reached : (c : Call) → Small c → d.Reached (admitted m x c).next.object
  admitted_reached (Enter s v) small = (entering_keeps m d x.object s reached v _ _ small (refl, refl)).1
  admitted_reached (Step s c) small = (stepping_keeps m d x.object s reached c _ _ (refl, refl)).1
  admitted_reached (Stop s) small = reached

  pub perform_reached : (c : Call) → Small c → d.Reached (perform m x c).next.object
  perform_reached c small = let kept = admitted_reached c small in grind arith

module _ (m : Machine) (d : Deciding m) where
  pub last_reached : (x : TrialState m.State) → d.Reached x.object → (calls : List Call) → AllSmall calls → d.Reached (last m x calls).object
  last_reached x reached [] small = reached
  last_reached x reached (c ∷ cs) small = last_reached (perform m x c).next (perform_reached m d x reached c small.0) cs small.1
