-- A call of a station that is one, by what its row is, first of a machine as it is and then of one whose making may have been
-- refused.
use Rattle.std.proofs.Common.{◌≡◌, ℕ, ◌<◌, Bool, true, false, ◌&&◌, ltb, List, length, get_or, set, Ok, None, Some, Option, Result, ap, ◌∙◌, refl, arith}
use Rattle.std.proofs.Math.Logic.{∥∥₁_elim}
use Rattle.std.proofs.Props.{props}
use Rattle.std.proofs.lemmas.Bool.{ltb-true, and_parts}
use Rattle.std.proofs.lemmas.List.{get_or_default}
use Rattle.std.specs.Coded.{le_prop, ×_prop}
use Rattle.deciding.specs.declared.record.Operation.{Operation}
use Rattle.deciding.specs.declared.record.Outcome.{Outcome}
use Rattle.deciding.specs.Laws.{marks}
use Rattle.deciding.specs.Calls.{Entering, Stepping, entering_keeps, stepping_keeps}
use Rattle.deciding.specs.Machine.{Machine}
use Rattle.deciding.specs.Refusable.{Made, refusable, where_made, with_refusal, entry_made, stepping_made}
use Rattle.refusal.specs.declared.Refusal.{Refusal}
use Rattle.machine.specs.declared.status.Status.{Status}
use Rattle.machine.specs.declared.status.Status.TheVariants.{Absent, Running}
use Rattle.machine.specs.declared.status.Plan.{Plan}
use Rattle.machine.specs.Protocol.{Protocol, Running', shown, running, register_of, content_of, contents_after, operation_of, outcome_of, status_after, machine_of}
use Rattle.machine.specs.Kept.{Kept}
use Rattle.machine.specs.Rows.{Advances}
use Rattle.machine.specs.Frame.{Good, MachineReached, running_deciding, running_good}

module _ {Setup Phase : Type 0} (p : Protocol Setup Phase) {Meets : Phase → ℕ → Type 0} (kept : Kept p Meets)
    (x : Running' Setup Phase) (reached : (running_deciding p kept).Reached x) (s : ℕ) (seated : (ltb s (p.stations x.setup) && ltb s 16) ≡ true) where
  merely : ∥ Good p kept x ∥₁
  merely = running_good p kept x reached

  seat : ltb s (p.stations x.setup) ≡ true
  seat = (and_parts _ _ seated).0

  below : s < p.stations x.setup
  below = ltb-true s (p.stations x.setup) seat

  pub enter_new : (v : ℕ) → v < marks → get_or x.table s Absent ≡ Absent → (i : ℕ) (begun : Phase) → i ≡ s → begun ≡ p.begun →
      let y = running x.setup x.contents (set x.table i (Running v 0 begun)) in Entering (machine_of p) x s v (Ok tt) y × (running_deciding p kept).Reached y
  enter_new v small away i begun here new =
      entering_keeps (machine_of p) (running_deciding p kept) x s reached v _ _ small (grind (arith, seat, away), grind (arith, seat, away))

  -- a station that is under way
  module _ (c v k : ℕ) (ph : Phase) (is : get_or x.table s Absent ≡ Running v k ph) where
    -- its register is there
    pub register_there : register_of (p.plan x.setup s v ph) < length x.contents
    register_there = ∥∥₁_elim merely le_prop (λ good. omega (arith, good.fitting.room, kept.below _ _ _ s v k ph good.inv below is))

    steps_few : k < 1000
    steps_few = ∥∥₁_elim merely le_prop (λ good.
        let laws = kept.gives _ _ _ good.fitting good.past good.inv in
        omega (arith, laws.bounded s v k (ap shown is), kept.within x.setup good.some good.fitting.few))

    in_table : s < length x.table
    in_table = ∥∥₁_elim merely le_prop (λ good. omega (arith, good.fitting.rows, good.fitting.few, below))

    -- the row that is lent is the station's
    lent_is : (i : ℕ) (d : Status Phase) → i ≡ s → get_or x.table i d ≡ Running v k ph
    lent_is i d same = get_or_default x.table i d Absent (omega (arith, in_table)) ∙ cc

    pub steps_on : IsSet Phase → (plan : Plan) (op : Operation) (ys : List ℕ) (i : ℕ) (d : Status Phase) (outcome : Option Outcome) (row : Status Phase) → plan ≡ p.plan x.setup s v ph →
        op ≡ operation_of x.contents plan → ys ≡ contents_after x.contents plan →
        i ≡ s → Advances p Meets x.setup s op.content c (get_or x.table i d) outcome row →
        let y = running x.setup ys (set x.table i row) in Stepping (machine_of p) x s c (Ok (op, outcome)) y × (running_deciding p kept).Reached y
    steps_on phases plan op ys i d outcome row planned oped left same advanced =
        let advances = rw (lent_is i d same) at advanced in
        let content : op.content ≡ content_of x.contents (p.plan x.setup s v ph) = grind arith in
        let turn = p.turn x.setup s v ph op.content c in
        let (out, row_is) = ∥∥₁_elim {P = (outcome ≡ outcome_of turn) × (row ≡ status_after v k turn)} merely (×_prop (hlevel props) (hlevel (props, phases))) (λ good.
        advances below (rw content (kept.meets _ _ _ s v k ph good.inv below is)) steps_few) in
        stepping_keeps (machine_of p) (running_deciding p kept) x s reached c _ _ (grind (arith, seat, is), grind (arith, seat, is))

-- a call of what was made is one of the machine in it
module _ (m : Machine) (x y : m.State) (s : ℕ) where
  entering_made : (v : ℕ) (r : Result (Unit {0}) Refusal) → Entering m x s v r y → Entering (refusable m) (Ok x) s v r (Ok y)
  entering_made v r e = rw (entry_made m x s v) (e.0, ap Ok e.1)

  stepping_of_made : (c : ℕ) (r : Result (Operation × Option Outcome) Refusal) → Stepping m x s c r y → Stepping (refusable m) (Ok x) s c r (Ok y)
  stepping_of_made c r e = rw (stepping_made m x s c) (e.0, ap Ok e.1)

-- who is a station of a machine that may have been refused: it was not
pub standing : {U : Type 0} (f : U → Bool) (u : U) (q : Option Refusal) → where_made f false (with_refusal u q) ≡ true → (q ≡ None) × (f u ≡ true)
standing f u None e = (refl, e)
standing f u (Some r) e = cc

module _ {Setup Phase : Type 0} (p : Protocol Setup Phase) {Meets : Phase → ℕ → Type 0} (kept : Kept p Meets)
    (x : Running' Setup Phase) (q : Option Refusal) (reached : MachineReached p kept x.setup x.contents x.table q) (s : ℕ)
    (seated : where_made (λ u. ltb s (p.stations u) && ltb s 16) false (with_refusal x.setup q) ≡ true) where
  none : q ≡ None
  none = (standing _ _ q seated).0

  seat_is : (ltb s (p.stations x.setup) && ltb s 16) ≡ true
  seat_is = (standing _ _ q seated).1

  made : Made (machine_of p) (running_deciding p kept) x
  made = rw none at reached

  as_made : (running_deciding p kept).Reached x
  as_made = made.reached

  pub made_enters : (v : ℕ) → v < marks → get_or x.table s Absent ≡ Absent → (i : ℕ) (begun : Phase) → i ≡ s → begun ≡ p.begun →
      let t = set x.table i (Running v 0 begun) in
      Entering (refusable (machine_of p)) (with_refusal x q) s v (Ok tt) (with_refusal (running x.setup x.contents t) q) × MachineReached p kept x.setup x.contents t q
  made_enters v small away i begun here new =
      let (e, r) = enter_new p kept x as_made s seat_is v small away i begun here new in
      rw none (entering_made (machine_of p) x _ s v _ e, record { reached = r; sizes = made.sizes })

  module _ (c v k : ℕ) (ph : Phase) (is : get_or x.table s Absent ≡ Running v k ph) where
    pub made_there : register_of (p.plan x.setup s v ph) < length x.contents
    made_there = register_there p kept x as_made s seat_is c v k ph is

    pub made_steps : IsSet Phase → (plan : Plan) (op : Operation) (ys : List ℕ) (i : ℕ) (d : Status Phase) (outcome : Option Outcome) (row : Status Phase) → plan ≡ p.plan x.setup s v ph →
        op ≡ operation_of x.contents plan → ys ≡ contents_after x.contents plan →
        i ≡ s → Advances p Meets x.setup s op.content c (get_or x.table i d) outcome row →
        let t = set x.table i row in
        Stepping (refusable (machine_of p)) (with_refusal x q) s c (Ok (op, outcome)) (with_refusal (running x.setup ys t) q) × MachineReached p kept x.setup ys t q
    made_steps phases plan op ys i d outcome row planned oped left same advanced =
        let (e, r) = steps_on p kept x as_made s seat_is c v k ph is phases plan op ys i d outcome row planned oped left same advanced in
        rw none (stepping_of_made (machine_of p) x _ s c _ e, record { reached = r; sizes = made.sizes })
