-- What a `Refusable` of the code holds: an object, or why its making was refused, and then it shows nothing at all. It differs
-- from what a making leaves (Refusable.antt) in one thing: the object in it may have been refused itself, and is asked. Assumes
-- nothing.
use Rattle.std.specs.Prelude.{◌≡◌, ℕ, ◌<◌, ◌≤◌, false, Some, Ok, Err, Option, Result, refl}
use Rattle.std.proofs.Common.{arith}
use Rattle.refusal.specs.declared.Refusal.{Refusal}
use Rattle.deciding.specs.declared.record.Record.TheVariants.{Away, UnderWay}
use Rattle.deciding.specs.Laws.{Laws, away_laws, stepped}
use Rattle.deciding.specs.Machine.{Machine, Enters, Steps, Beside}
use Rattle.deciding.specs.Sizes.{Sized}
use Rattle.deciding.specs.Deciding.{Deciding}
use Rattle.deciding.specs.Refusable.{Refusable, where_made, enter_made, step_made}

-- the states of objects, or the refusals, which come with what was given to the making
abbrev pub state_made : {T S G : Type 0} → (T → S) → Result T (Refusal × G) → Refusable S
state_made f (Ok t) = Ok (f t)
state_made f (Err e) = Err e.0

-- what was refused stays so, and what was given as it is
abbrev pub StaysRefused : {T G : Type 0} → Result T (Refusal × G) → Result T (Refusal × G) → Type 0
StaysRefused {T} {G} old new = (e : Refusal × G) → ◌≡◌ {A = Result T (Refusal × G)} old (Err e) → ◌≡◌ {A = Result T (Refusal × G)} new (Err e)

module _ (m : Machine) where
  abbrev pub refusal_held : Refusable m.State → Option Refusal
  refusal_held (Ok x) = m.refused x
  refusal_held (Err r) = Some r

  abbrev pub held : Machine
  held = record {
    State = Refusable m.State;
    stations = where_made m.stations 0;
    limit = where_made m.limit 0;
    registers = where_made m.registers 0;
    ratifying = where_made m.ratifying false;
    refused = refusal_held;
    record_of = λ x s. where_made (λ y. m.record_of y s) Away x;
    enter = enter_made m;
    step = step_made m;
  }

module _ (m : Machine) (d : Deciding m) where
  abbrev pub HeldReached : Refusable m.State → Type 0
  HeldReached (Ok x) = d.Reached x
  HeldReached (Err r) = Unit {0}

  pub reached_prop : (x : Refusable m.State) → IsProp (HeldReached x)
  reached_prop (Ok x) = d.reached_prop x
  reached_prop (Err r) = λ a b. refl

  beside_held : {s : ℕ} {x y : m.State} → Beside m s x y → Beside (held m) s (Ok x) (Ok y)
  beside_held b = record { stations = b.stations; limit = b.limit; registers = b.registers; ratifying = b.ratifying; refused = b.refused; others = b.others }

  nobody : {P : Type 0} {s : ℕ} → s < 0 → P
  nobody below = absurd (omega (arith, below))

  module _ (s v : ℕ) where
    abbrev pub MayEnter : Refusable m.State → Type 0
    MayEnter x = Enters (held m) x s v

    enters : (x : m.State) → MayEnter (Ok x) → Enters m x s v
    enters x e = record { below = e.below; away = e.away; small = e.small }

    pub enter_reached : (x : Refusable m.State) → HeldReached x → MayEnter x → HeldReached (enter_made m x s v)
    enter_reached (Ok x) r e = d.enter_reached x s v r (enters x e)
    enter_reached (Err q) r e = tt

    pub enter_beside : (x : Refusable m.State) → HeldReached x → MayEnter x → Beside (held m) s x (enter_made m x s v)
    enter_beside (Ok x) r e = beside_held (d.enter_beside x s v r (enters x e))
    enter_beside (Err q) r e = nobody e.below

    pub enter_own : (x : Refusable m.State) → HeldReached x → MayEnter x → (held m).record_of (enter_made m x s v) s ≡ UnderWay v 0
    enter_own (Ok x) r e = d.enter_own x s v r (enters x e)
    enter_own (Err q) r e = nobody e.below

  module _ (s c v k : ℕ) where
    abbrev pub MayStep : Refusable m.State → Type 0
    MayStep x = Steps (held m) x s v k

    steps : (x : m.State) → MayStep (Ok x) → Steps m x s v k
    steps x e = record { below = e.below; under_way = e.under_way }

    pub step_reached : (x : Refusable m.State) → HeldReached x → MayStep x → HeldReached (step_made m x s c).next
    step_reached (Ok x) r e = d.step_reached x s c v k r (steps x e)
    step_reached (Err q) r e = tt

    pub step_beside : (x : Refusable m.State) → HeldReached x → MayStep x → Beside (held m) s x (step_made m x s c).next
    step_beside (Ok x) r e = beside_held (d.step_beside x s c v k r (steps x e))
    step_beside (Err q) r e = nobody e.below

    pub step_own : (x : Refusable m.State) → HeldReached x → MayStep x → (held m).record_of (step_made m x s c).next s ≡ stepped (UnderWay v k) (step_made m x s c).outcome
    step_own (Ok x) r e = d.step_own x s c v k r (steps x e)
    step_own (Err q) r e = nobody e.below

    pub step_below : (x : Refusable m.State) → HeldReached x → MayStep x → (step_made m x s c).operation.register < (held m).registers x
    step_below (Ok x) r e = d.step_below x s c v k r (steps x e)
    step_below (Err q) r e = nobody e.below

  pub away : (x : Refusable m.State) (s : ℕ) → HeldReached x → (held m).stations x ≤ s → (held m).record_of x s ≡ Away
  away x s r past = grind (arith, d.away)

  pub sized : (x : Refusable m.State) → HeldReached x → Sized (refusal_held m x) ((held m).stations x) ((held m).limit x) ((held m).registers x) ((held m).ratifying x)
  sized (Ok x) r = d.sized x r
  sized (Err q) r = grind arith

  pub laws : (x : Refusable m.State) → HeldReached x → Laws ((held m).limit x) ((held m).ratifying x) ((held m).record_of x)
  laws (Ok x) r = d.laws x r
  laws (Err q) r = away_laws false

  abbrev pub held_deciding : Deciding (held m)
  held_deciding = record {
    Reached = HeldReached;
    reached_prop = reached_prop;
    enter_reached = λ x s v. enter_reached s v x;
    enter_beside = λ x s v. enter_beside s v x;
    enter_own = λ x s v. enter_own s v x;
    step_reached = λ x s c v k. step_reached s c v k x;
    step_beside = λ x s c v k. step_beside s c v k x;
    step_own = λ x s c v k. step_own s c v k x;
    step_below = λ x s c v k. step_below s c v k x;
    away = away;
    sized = sized;
    laws = laws;
  }

  -- where every object is reached, so is whatever a making leaves
  pub all_reached : {T G : Type 0} (state : T → m.State) → ((t : T) → d.Reached (state t)) → (made : Result T (Refusal × G)) → HeldReached (state_made state made)
  all_reached state every made = grind (arith, every)
