-- One deciding machine after another: who adopts in the first enters the second with the mark adopted.
use Rattle.std.specs.Prelude.{◌≡◌, ℕ, ◌+◌, ◌^◌, ◌<◌, Bool, true, false, ◌||◌, Some, None, Option}
use Rattle.deciding.specs.declared.record.Outcome.{Outcome}
use Rattle.deciding.specs.declared.record.Outcome.TheVariants.{Adopt, Commit}
use Rattle.deciding.specs.declared.record.Record.{Record}
use Rattle.deciding.specs.declared.record.Record.TheVariants.{Away, UnderWay, Answered}
use Rattle.deciding.specs.declared.record.Operation.{Operation}
use Rattle.deciding.specs.Machine.{Machine, Step}
use Rattle.deciding.specs.Sizes.{Sizes}
use Rattle.deciding.specs.Deciding.{Deciding}

-- RECORDS

-- what a station's two records come to: the first's proposal, the steps of both, the first's commit or the second's outcome
abbrev pub joined : Record → Record → Record
joined Away b = Away
joined (UnderWay v k) b = UnderWay v k
joined (Answered v k (Commit u)) b = Answered v k (Commit u)
joined (Answered v k (Adopt u)) Away = UnderWay v k
joined (Answered v k (Adopt u)) (UnderWay w j) = UnderWay v (k + j)
joined (Answered v k (Adopt u)) (Answered w j o) = Answered v (k + j) o

-- the second part knows of a station just what the first gave it: nothing, or the mark adopted as its proposal
abbrev pub Link : Record → Record → Type 0
Link Away b = b ≡ Away
Link (UnderWay v k) b = b ≡ Away
Link (Answered v k (Commit u)) b = b ≡ Away
Link (Answered v k (Adopt u)) Away = ⊥
Link (Answered v k (Adopt u)) (UnderWay w j) = w ≡ u
Link (Answered v k (Adopt u)) (Answered w j o) = w ≡ u

-- did the station of this record, in the first part, come out with a mark to go on with?
abbrev pub goes_on : Record → Bool
goes_on Away = false
goes_on (UnderWay v k) = false
goes_on (Answered v k (Adopt u)) = true
goes_on (Answered v k (Commit u)) = false

-- the steps of both parts together can be counted
abbrev pub StepsFit : Record → Record → Type 0
StepsFit Away b = Unit {0}
StepsFit (UnderWay v k) b = Unit {0}
StepsFit (Answered v k o) Away = Unit {0}
StepsFit (Answered v k o) (UnderWay w j) = k + j < 2 ^ 16
StepsFit (Answered v k o) (Answered w j p) = k + j < 2 ^ 16

-- STEPS

-- an operation on a register that is numbered after so many others
abbrev pub moved : ℕ → Operation → Operation
moved by o = record { access = o.access; register = by + o.register; content = o.content }

-- what is told outside of an outcome of the first part
abbrev pub told : Option Outcome → Option Outcome
told None = None
told (Some (Adopt w)) = None
told (Some (Commit w)) = Some (Commit w)

-- the second part, after the first brought an outcome
abbrev pub handed : {B : Type 0} → (ℕ → B) → B → Option Outcome → B
handed enter y None = y
handed enter y (Some (Adopt w)) = enter w
handed enter y (Some (Commit w)) = y

pub record Pair (A B : Type 0) : Type 0 where
  pub first : A
  pub second : B

abbrev pub pair : {A B : Type 0} → A → B → Pair A B
pair x y = record { first = x; second = y }

module _ (m n : Machine) where
  abbrev pub step_first : Pair m.State n.State → ℕ → Step m.State → Step (Pair m.State n.State)
  step_first p s r = record {
    operation = r.operation;
    outcome = told r.outcome;
    next = pair r.next (handed (n.enter p.second s) p.second r.outcome);
  }

  abbrev pub step_second : Pair m.State n.State → Step n.State → Step (Pair m.State n.State)
  step_second p r = record { operation = moved (m.registers p.first) r.operation; outcome = r.outcome; next = pair p.first r.next }

  -- by the station's record in the first part
  abbrev pub step_in : Pair m.State n.State → ℕ → ℕ → Record → Step (Pair m.State n.State)
  step_in p s c (UnderWay v k) = step_first p s (m.step p.first s c)
  step_in p s c Away = step_second p (n.step p.second s c)
  step_in p s c (Answered v k o) = step_second p (n.step p.second s c)

  abbrev pub joint : Machine
  joint = record {
    State = Pair m.State n.State;
    stations = λ p. m.stations p.first;
    limit = λ p. m.limit p.first + n.limit p.second;
    registers = λ p. m.registers p.first + n.registers p.second;
    ratifying = λ p. m.ratifying p.first || n.ratifying p.second;
    refused = λ p. None;
    record_of = λ p s. joined (m.record_of p.first s) (n.record_of p.second s);
    enter = λ p s v. pair (m.enter p.first s v) p.second;
    step = λ p s c. step_in p s c (m.record_of p.first s);
  }

-- The states that two parts come to together: each is reached, they have as many stations, their sums are of a size that an
-- object may have, and of each station the second part knows what the first gave it.
pub record Together (m n : Machine) (d : Deciding m) (e : Deciding n) (p : Pair m.State n.State) : Type 0 where
  pub first : d.Reached p.first
  pub second : e.Reached p.second
  pub stations : n.stations p.second ≡ m.stations p.first
  pub sizes : Sizes (m.stations p.first) (m.limit p.first + n.limit p.second) (m.registers p.first + n.registers p.second)
  pub linked : (s : ℕ) → Link (m.record_of p.first s) (n.record_of p.second s)
