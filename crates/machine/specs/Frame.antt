-- A protocol with an invariant gives a deciding object on every board, and every making begins one. Assumes nothing.
use Rattle.std.specs.Prelude.{◌≡◌, ℕ, ◌<◌, ◌≤◌, true, List, length, None, Option, Decides, ◌==◌, replicate, slice_index, slice_index_or, slice_set, refl}
use Rattle.std.proofs.Common.{ap, ◌∙◌, inl, inr, arith, length-set}
use Rattle.std.proofs.Math.Logic.{∥∥₁_elim, ∥∥₁_map}
use Rattle.std.specs.Coded.{le_prop}
use Rattle.std.proofs.Math.ListN.{get_or-eq_default, length-replicate}
use Rattle.std.proofs.lemmas.List.{get_or-set_same, get_or-set_other, get_or-replicate}
use Rattle.std.proofs.lemmas.Bool.{cases_lt}
use Rattle.std.proofs.lemmas.Bool.Decides.{Decides-below_and, nat_tests}
use Rattle.deciding.specs.declared.record.Record.TheVariants.{Away, UnderWay}
use Rattle.deciding.specs.Laws.{stepped, record_prop, laws_found}
use Rattle.deciding.specs.Machine.{Beside, Enters, Steps}
use Rattle.deciding.specs.Sizes.{one_to_sixteen, sizes_prop}
use Rattle.deciding.specs.Deciding.{Deciding}
use Rattle.deciding.specs.Refusable.{Made, refusable, refusable_deciding, with_refusal}
use Rattle.refusal.specs.declared.Refusal.{Refusal}
use Rattle.machine.specs.declared.status.Status.{Status}
use Rattle.machine.specs.declared.status.Status.TheVariants.{Absent, Running, Done}
use Rattle.machine.specs.Protocol.{Protocol, Running', running, shown, machine_of}
use Rattle.machine.specs.Kept.{rows, Fitting, Kept}
use Rattle.machine.specs.Making.{empty_below, refusal_of, fresh, made}

-- from two constructors that are equal, by `cc`, anything
pub clash : {A : Type 0} → ◌≡◌ {A = ℕ} 0 1 → A
clash e = absurd (omega arith)

-- WHAT A ROW SHOWS
module _ {P : Type 0} where
  row_running : (row : Status P) (v k : ℕ) → shown row ≡ UnderWay v k → (ph : P) × (row ≡ Running v k ph)
  row_running Absent v k e = cc
  row_running (Running w j ph) v k e = (ph, cc)
  row_running (Done w j o) v k e = cc

-- THE STATES of a machine whose making passed
pub record Good {Setup Phase : Type 0} (p : Protocol Setup Phase) {Meets : Phase → ℕ → Type 0} (kept : Kept p Meets) (x : Running' Setup Phase) : Type 0 where
  pub some : 1 ≤ p.stations x.setup
  pub fitting : Fitting p x.setup x.contents x.table
  pub past : (s : ℕ) → p.stations x.setup ≤ s → slice_index_or x.table s Absent ≡ Absent
  pub inv : kept.Inv x.setup x.contents x.table

module _ {Setup Phase : Type 0} (p : Protocol Setup Phase) {Meets : Phase → ℕ → Type 0} (kept : Kept p Meets) where
  -- x after a change of row s, and of the contents, to those given
  module _ (x : Running' Setup Phase) (s : ℕ) (xs : List ℕ) (row : Status Phase) where
    abbrev after : Running' Setup Phase
    after = running x.setup xs (slice_set x.table s row)

    after_beside : Beside (machine_of p) s x after
    after_beside = record {
      stations = refl;
      limit = refl;
      registers = refl;
      ratifying = refl;
      refused = refl;
      others = λ t other. ap shown (get_or-set_other x.table s t row Absent other);
    }

    module _ (good : Good p kept x) (below : s < p.stations x.setup) where
      after_own : (machine_of p).record_of after s ≡ shown row
      after_own = ap shown (get_or-set_same x.table s row Absent (omega (arith, good.fitting.few, good.fitting.rows)))

      after_good : length xs ≡ length x.contents → kept.Inv x.setup xs (slice_set x.table s row) → Good p kept after
      after_good long inv = record {
        some = good.some;
        fitting = record { few = good.fitting.few; rows = length-set x.table s row ∙ good.fitting.rows; room = omega (arith, good.fitting.room) };
        past = λ t past. get_or-set_other x.table s t row Absent (omega arith) ∙ good.past t past;
        inv = inv;
      }

  pub enter_good : (x : Running' Setup Phase) (s v : ℕ) → Good p kept x → Enters (machine_of p) x s v → Good p kept ((machine_of p).enter x s v)
  enter_good x s v good e =
      after_good x s x.contents (Running v 0 p.begun) good e.below refl
      (kept.enter_kept _ _ _ s v good.fitting good.inv e.below e.small (grind (arith, e.away)))

  module _ (x : Running' Setup Phase) (s c v k : ℕ) (e : Steps (machine_of p) x s v k) where
    under_way : (ph : Phase) × (slice_index_or x.table s Absent ≡ Running v k ph)
    under_way = row_running (slice_index_or x.table s Absent) v k e.under_way

    step_beside : Beside (machine_of p) s x ((machine_of p).step x s c).next
    step_beside = rw under_way.1 (after_beside x s _ _)

    module _ (good : Good p kept x) where
      pub step_good : Good p kept ((machine_of p).step x s c).next
      step_good = rw under_way.1 (after_good x s _ _ good e.below (grind (arith, length-set)) (kept.step_kept _ _ _ s c v k under_way.0 good.fitting good.inv e.below under_way.1))

      step_own : (machine_of p).record_of ((machine_of p).step x s c).next s ≡ stepped (UnderWay v k) ((machine_of p).step x s c).outcome
      step_own = rw under_way.1 (after_own x s x.contents _ good e.below ∙ grind arith)

      step_below : ((machine_of p).step x s c).operation.register < p.registers x.setup
      step_below = rw under_way.1 (grind (arith, kept.below _ _ _ s v k under_way.0 good.inv e.below under_way.1))

  none_away : (x : Running' Setup Phase) (s : ℕ) → ∥ Good p kept x ∥₁ → p.stations x.setup ≤ s → (machine_of p).record_of x s ≡ Away
  none_away x s merely past = ∥∥₁_elim merely (record_prop _ _) (λ good. ap shown (good.past s past))

  -- that a state is good can have more than one proof, by the protocol's invariant
  pub running_deciding : Deciding (machine_of p)
  running_deciding = record {
    Reached = λ x. ∥ Good p kept x ∥₁;
    reached_prop = λ x. squash₁;
    enter_reached = λ x s v merely e. ∥∥₁_map merely (λ good. enter_good x s v good e);
    enter_beside = λ x s v merely e. after_beside x s _ _;
    enter_own = λ x s v merely e. ∥∥₁_elim merely (record_prop _ _) (λ good. after_own x s x.contents _ good e.below);
    step_reached = λ x s c v k merely e. ∥∥₁_map merely (step_good x s c v k e);
    step_beside = λ x s c v k merely e. step_beside x s c v k e;
    step_own = λ x s c v k merely e. ∥∥₁_elim merely (record_prop _ _) (step_own x s c v k e);
    step_below = λ x s c v k merely e. ∥∥₁_elim merely le_prop (step_below x s c v k e);
    away = none_away;
    sized = λ x merely. record {
      made = λ _. ∥∥₁_elim merely (sizes_prop _ _ _) (λ good. grind (arith, good.some, good.fitting.few, kept.within x.setup good.some good.fitting.few));
      unmade = λ r e. cc;
    };
    laws = λ x merely. laws_found _ _ _ (p.stations x.setup) (λ s. none_away x s merely) (∥∥₁_map merely (λ good. kept.gives _ _ _ good.fitting good.past good.inv));
  }

  -- what is reached is good
  pub running_good : (x : Running' Setup Phase) → running_deciding.Reached x → ∥ Good p kept x ∥₁
  unfolding running_deciding
  running_good x reached = reached

  -- THE OBJECT that a making leaves
  abbrev pub kept_deciding : Deciding (refusable (machine_of p))
  kept_deciding = refusable_deciding (machine_of p) running_deciding

  -- what a machine of the code keeps, of its setup, its board's contents, its table and whether it was refused
  abbrev pub MachineReached : Setup → List ℕ → List (Status Phase) → Option Refusal → Type 0
  MachineReached u xs t q = kept_deciding.Reached (with_refusal (running u xs t) q)

  pub machine_reached_prop : (u : Setup) (xs : List ℕ) (t : List (Status Phase)) (q : Option Refusal) → IsProp (MachineReached u xs t q)
  machine_reached_prop u xs t q = kept_deciding.reached_prop (with_refusal (running u xs t) q)

-- THE MAKING
-- a list of one value, with that value past its end too
pub all_default : {A : Type 0} (k : ℕ) (x : A) (i : ℕ) → slice_index_or (replicate k x) i x ≡ x
all_default k x i = elim (cases_lt i k) [ inl h ↦ get_or-replicate k i x x h | inr h ↦ get_or-eq_default (replicate k x) x (omega (arith, length-replicate k x)) ]

-- the first k contents are empty just where each passes the test
pub empties : (xs : List ℕ) (k : ℕ) → Decides (empty_below xs k) ((i : ℕ) → i < k → (slice_index xs i == 0) ≡ true)
empties xs k = Decides-below_and (λ i. slice_index xs i == 0) (λ i. (slice_index xs i == 0) ≡ true) (empty_below xs) (λ i. (λ e. e, λ e. e)) refl (λ _. refl) k

module _ {Setup Phase : Type 0} (p : Protocol Setup Phase) {Meets : Phase → ℕ → Type 0} (kept : Kept p Meets) (u : Setup) (xs : List ℕ) where
  pub fresh_good : refusal_of p u xs ≡ None → Good p kept (fresh p u xs)
  fresh_good none =
      let few : one_to_sixteen (p.stations u) ≡ true = grind arith in
      let empty : empty_below xs (p.registers u) ≡ true = grind arith in
      let fits : Fitting p u xs (fresh p u xs).table = record { few = grind (arith, nat_tests); rows = refl; room = grind (arith, nat_tests) } in
      record {
        some = grind (arith, nat_tests);
        fitting = fits;
        past = λ s _. all_default rows Absent s;
        inv = kept.new u xs (fresh p u xs).table fits (λ i l. grind (arith, nat_tests, (empties xs (p.registers u)).0 empty i l)) (all_default rows Absent);
      }

  -- a making whose questions pass begins a machine that is reached
  pub fresh_reached : refusal_of p u xs ≡ None → (running_deciding p kept).Reached (fresh p u xs)
  unfolding running_deciding
  fresh_reached none = ∣ fresh_good none ∣₁

  fresh_made : refusal_of p u xs ≡ None → Made (machine_of p) (running_deciding p kept) (fresh p u xs)
  fresh_made none = let reached = fresh_reached none in record { reached = reached; sizes = ((running_deciding p kept).sized (fresh p u xs) reached).made refl }

  -- whatever a making leaves is reached
  pub made_reached : (kept_deciding p kept).Reached (made p u xs)
  made_reached = grind (arith, fresh_made)

  -- so is a machine of the code, just made
  pub new_reached : (q : Option Refusal) → q ≡ refusal_of p u xs → MachineReached p kept u xs (replicate rows Absent) q
  new_reached q is = rw is made_reached
