-- A making that may be refused. What it leaves is a state of the machine, or why it was refused: then it shows nothing at all. One
-- text and one proof for every object whose making asks questions.
use Rattle.std.specs.Prelude.{◌≡◌, ℕ, ◌<◌, ◌≤◌, true, false, Some, None, Ok, Err, Option, Result, refl}
use Rattle.std.specs.Result.{result_err}
use Rattle.std.proofs.Common.{arith}
use Rattle.std.proofs.lemmas.Bool.Decides.{nat_tests}
use Rattle.refusal.specs.declared.Refusal.{Refusal}
use Rattle.deciding.specs.declared.record.Access.TheVariants.{Read}
use Rattle.deciding.specs.declared.record.Record.TheVariants.{Away, UnderWay}
use Rattle.deciding.specs.Laws.{Laws, away_laws, stepped}
use Rattle.deciding.specs.Machine.{Machine, Step, Enters, Steps, Beside}
use Rattle.deciding.specs.Sizes.{Sizes, Sized, one_to_sixteen, sizes_prop}
use Rattle.deciding.specs.Deciding.{Deciding}
use Rattle.deciding.specs.Calls.{entry, stepping}

abbrev pub Refusable : Type 0 → Type 0
Refusable S = Result S Refusal

-- the state, if there is no refusal
abbrev pub with_refusal : {S : Type 0} → S → Option Refusal → Refusable S
with_refusal x None = Ok x
with_refusal x (Some r) = Err r

-- what comes of asking whether something is refused
abbrev pub granted : Option Refusal → Result (Unit {0}) Refusal
granted None = Ok tt
granted (Some r) = Err r

pub was_granted : (q : Option Refusal) → ◌≡◌ {A = Result (Unit {0}) Refusal} (Ok tt) (granted q) → q ≡ None
was_granted q e = grind arith

-- why a question was not granted
pub refused_with : (q : Option Refusal) → result_err (granted q) ≡ q
refused_with None = refl
refused_with (Some r) = refl

-- what is told of the state, and what else where the making was refused
abbrev pub where_made : {S A : Type 0} → (S → A) → A → Refusable S → A
where_made f a (Ok x) = f x
where_made f a (Err r) = a

module _ (m : Machine) where
  -- a making that passed was not refused
  abbrev pub refusal_made : Refusable m.State → Option Refusal
  refusal_made (Ok x) = None
  refusal_made (Err r) = Some r

  abbrev pub enter_made : Refusable m.State → ℕ → ℕ → Refusable m.State
  enter_made (Ok x) s v = Ok (m.enter x s v)
  enter_made (Err r) s v = Err r

  -- no step is accepted where the making was refused; what stands for it does not matter
  abbrev pub step_made : Refusable m.State → ℕ → ℕ → Step (Refusable m.State)
  step_made (Ok x) s c = let n = m.step x s c in record { operation = n.operation; outcome = n.outcome; next = Ok n.next }
  step_made (Err r) s c = record { operation = record { access = Read; register = 0; content = 0 }; outcome = None; next = Err r }

  abbrev pub refusable : Machine
  refusable = record {
    State = Refusable m.State;
    stations = where_made m.stations 0;
    limit = where_made m.limit 0;
    registers = where_made m.registers 0;
    ratifying = where_made m.ratifying false;
    refused = refusal_made;
    record_of = λ x s. where_made (λ y. m.record_of y s) Away x;
    enter = enter_made;
    step = step_made;
  }

module _ (m : Machine) (d : Deciding m) where
  -- a making that passed makes an object of 1 to 16 stations
  pub record Made (x : m.State) : Type 0 where
    pub reached : d.Reached x
    pub sizes : Sizes (m.stations x) (m.limit x) (m.registers x)

  abbrev pub RefusableReached : Refusable m.State → Type 0
  RefusableReached (Ok x) = Made x
  RefusableReached (Err r) = Unit {0}

  pub reached_prop : (x : Refusable m.State) → IsProp (RefusableReached x)
  reached_prop (Ok x) a b = λ i. record { reached = d.reached_prop x a.reached b.reached i; sizes = sizes_prop _ _ _ a.sizes b.sizes i }
  reached_prop (Err r) a b = refl

  -- it stays so whatever is called
  still_made : (s : ℕ) (x y : m.State) → Made x → d.Reached y → Beside m s x y → Made y
  still_made s x y made reached beside = record { reached = reached; sizes = rw (beside.stations, beside.limit, beside.registers) made.sizes }

  beside_made : {s : ℕ} {x y : m.State} → Beside m s x y → Beside (refusable m) s (Ok x) (Ok y)
  beside_made b = record { stations = b.stations; limit = b.limit; registers = b.registers; ratifying = b.ratifying; refused = refl; others = b.others }

  nobody : {P : Type 0} {s : ℕ} → s < 0 → P
  nobody below = absurd (omega (arith, below))

  module _ (s v : ℕ) where
    abbrev pub MayEnter : Refusable m.State → Type 0
    MayEnter x = Enters (refusable m) x s v

    enters : (x : m.State) → MayEnter (Ok x) → Enters m x s v
    enters x e = record { below = e.below; away = e.away; small = e.small }

    pub enter_reached : (x : Refusable m.State) → RefusableReached x → MayEnter x → RefusableReached (enter_made m x s v)
    enter_reached (Ok x) r e = still_made s x _ r (d.enter_reached x s v r.reached (enters x e)) (d.enter_beside x s v r.reached (enters x e))
    enter_reached (Err q) r e = tt

    pub enter_beside : (x : Refusable m.State) → RefusableReached x → MayEnter x → Beside (refusable m) s x (enter_made m x s v)
    enter_beside (Ok x) r e = beside_made (d.enter_beside x s v r.reached (enters x e))
    enter_beside (Err q) r e = nobody e.below

    pub enter_own : (x : Refusable m.State) → RefusableReached x → MayEnter x → (refusable m).record_of (enter_made m x s v) s ≡ UnderWay v 0
    enter_own (Ok x) r e = d.enter_own x s v r.reached (enters x e)
    enter_own (Err q) r e = nobody e.below

  module _ (s c v k : ℕ) where
    abbrev pub MayStep : Refusable m.State → Type 0
    MayStep x = Steps (refusable m) x s v k

    steps : (x : m.State) → MayStep (Ok x) → Steps m x s v k
    steps x e = record { below = e.below; under_way = e.under_way }

    pub step_reached : (x : Refusable m.State) → RefusableReached x → MayStep x → RefusableReached (step_made m x s c).next
    step_reached (Ok x) r e = still_made s x _ r (d.step_reached x s c v k r.reached (steps x e)) (d.step_beside x s c v k r.reached (steps x e))
    step_reached (Err q) r e = tt

    pub step_beside : (x : Refusable m.State) → RefusableReached x → MayStep x → Beside (refusable m) s x (step_made m x s c).next
    step_beside (Ok x) r e = beside_made (d.step_beside x s c v k r.reached (steps x e))
    step_beside (Err q) r e = nobody e.below

    pub step_own : (x : Refusable m.State) → RefusableReached x → MayStep x → (refusable m).record_of (step_made m x s c).next s ≡ stepped (UnderWay v k) (step_made m x s c).outcome
    step_own (Ok x) r e = d.step_own x s c v k r.reached (steps x e)
    step_own (Err q) r e = nobody e.below

    pub step_below : (x : Refusable m.State) → RefusableReached x → MayStep x → (step_made m x s c).operation.register < (refusable m).registers x
    step_below (Ok x) r e = d.step_below x s c v k r.reached (steps x e)
    step_below (Err q) r e = nobody e.below

  pub away : (x : Refusable m.State) (s : ℕ) → RefusableReached x → (refusable m).stations x ≤ s → (refusable m).record_of x s ≡ Away
  away (Ok x) s r past = d.away x s r.reached past
  away (Err q) s r past = refl

  pub sized : (x : Refusable m.State) → RefusableReached x → Sized (refusal_made m x) ((refusable m).stations x) ((refusable m).limit x) ((refusable m).registers x) ((refusable m).ratifying x)
  sized (Ok x) r = record { made = λ _. r.sizes; unmade = λ q h. cc }
  sized (Err q) r = grind arith

  pub laws : (x : Refusable m.State) → RefusableReached x → Laws ((refusable m).limit x) ((refusable m).ratifying x) ((refusable m).record_of x)
  laws (Ok x) r = d.laws x r.reached
  laws (Err q) r = away_laws false

  abbrev pub refusable_deciding : Deciding (refusable m)
  refusable_deciding = record {
    Reached = RefusableReached;
    reached_prop = reached_prop;
    enter_reached = λ x s v. enter_reached s v x;
    enter_beside = λ x s v. enter_beside s v x;
    enter_own = λ x s v. enter_own s v x;
    step_reached = λ x s c v k. step_reached s c v k x;
    step_beside = λ x s c v k. step_beside s c v k x;
    step_own = λ x s c v k. step_own s c v k x;
    step_below = λ x s c v k. step_below s c v k x;
    away = away;
    sized = sized;
    laws = laws;
  }

  -- an object with at least one station was not refused
  pub sizes_where_made : (x : m.State) → d.Reached x → one_to_sixteen (m.stations x) ≡ true → Sizes (m.stations x) (m.limit x) (m.registers x)
  sizes_where_made x reached small = let sized = d.sized x reached in grind (arith, nat_tests, small, sized.made, sized.unmade)

-- THE CALLS, where the making passed: the answer is that of the machine inside, and what is left is its next state
module _ (m : Machine) (x : m.State) where
  pub entry_made : (s v : ℕ) → entry (refusable m) (with_refusal x None) s v ≡ record { answer = (entry m x s v).answer; state = with_refusal (entry m x s v).state None }
  entry_made s v = grind arith

  pub stepping_made : (s c : ℕ) → stepping (refusable m) (with_refusal x None) s c ≡ record { answer = (stepping m x s c).answer; state = with_refusal (stepping m x s c).state None }
  stepping_made s c = grind arith
