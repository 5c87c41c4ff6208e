-- What makes an abstract machine a deciding object.
use Rattle.std.specs.Prelude.{◌≡◌, ℕ, ◌<◌, ◌≤◌}
use Rattle.deciding.specs.declared.record.Record.TheVariants.{Away, UnderWay}
use Rattle.deciding.specs.Laws.{Laws, stepped}
use Rattle.deciding.specs.Machine.{Machine, Enters, Steps, Beside}
use Rattle.deciding.specs.Sizes.{Sized}

-- Reached holds of the states that an object comes to by accepted enters and steps, from its making on. It says no more
-- than an invariant has to: it is kept by both calls, and the rest is owed of every state where it holds.
pub record Deciding (m : Machine) : Type 1 where
  pub Reached : m.State → Type 0
  -- two proofs of it are one, so that a struct can keep it
  pub reached_prop : (x : m.State) → IsProp (Reached x)
  pub enter_reached : (x : m.State) (s v : ℕ) → Reached x → Enters m x s v → Reached (m.enter x s v)
  pub step_reached : (x : m.State) (s c v k : ℕ) → Reached x → Steps m x s v k → Reached (m.step x s c).next
  -- a call changes the record of its station only: by an enter it is under way with no step, by a step it has one step more
  pub enter_beside : (x : m.State) (s v : ℕ) → Reached x → Enters m x s v → Beside m s x (m.enter x s v)
  pub enter_own : (x : m.State) (s v : ℕ) → Reached x → Enters m x s v → m.record_of (m.enter x s v) s ≡ UnderWay v 0
  pub step_beside : (x : m.State) (s c v k : ℕ) → Reached x → Steps m x s v k → Beside m s x (m.step x s c).next
  pub step_own : (x : m.State) (s c v k : ℕ) → Reached x → Steps m x s v k → m.record_of (m.step x s c).next s ≡ stepped (UnderWay v k) (m.step x s c).outcome
  -- the operation of a step is on a register of the object
  pub step_below : (x : m.State) (s c v k : ℕ) → Reached x → Steps m x s v k → (m.step x s c).operation.register < m.registers x
  -- who is no station is away
  pub away : (x : m.State) (s : ℕ) → Reached x → m.stations x ≤ s → m.record_of x s ≡ Away
  pub sized : (x : m.State) → Reached x → Sized (m.refused x) (m.stations x) (m.limit x) (m.registers x) (m.ratifying x)
  pub laws : (x : m.State) → Reached x → Laws (m.limit x) (m.ratifying x) (m.record_of x)
