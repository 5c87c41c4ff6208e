-- What the calls of a schedule are put to.
use Rattle.std.specs.Prelude.{◌≡◌, Err}
use Rattle.refusal.specs.declared.Refusal.TheVariants.{NoPile}
use Rattle.deciding.specs.Machine.{Machine}
use Rattle.trial.specs.declared.call.Call.{Call}
use Rattle.trial.specs.Answers.{Answer}
use Rattle.trial.specs.Perform.{TrialState, perform}

-- the answer to a call, and the state after it
pub record Heard (S : Type 0) : Type 0 where
  pub answer : Answer
  pub next : S

-- something that answers calls, in a state
pub record Responder : Type 1 where
  pub State : Type 0
  pub answers : State → Call → Heard State
  pub state : State

abbrev pub in_state : {S : Type 0} → (S → Call → Heard S) → S → Responder
in_state {S} f x = record { State = S; answers = f; state = x }

-- before an N was accepted every call is refused
abbrev pub refuses_all : Unit {0} → Call → Heard (Unit {0})
refuses_all x c = record { answer = Err NoPile; next = x }

abbrev pub no_trial : Responder
no_trial = in_state refuses_all tt

abbrev pub performs : (m : Machine) → TrialState m.State → Call → Heard (TrialState m.State)
performs m x c = record { answer = (perform m x c).answer; next = (perform m x c).next }

abbrev pub trial_in : (m : Machine) → TrialState m.State → Responder
trial_in m x = in_state (performs m) x

-- a and y are the answer to the call c in the state x, and the state after it
abbrev pub Responds : {S : Type 0} → (S → Call → Heard S) → S → Call → Answer → S → Type 0
Responds f x c a y = (a ≡ (f x c).answer) × (y ≡ (f x c).next)
