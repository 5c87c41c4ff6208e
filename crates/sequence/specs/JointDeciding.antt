-- Two deciding objects, one after the other, are a deciding object.
use Rattle.std.specs.Prelude.{◌≡◌, ℕ, ◌+◌, ◌<◌, ◌||◌, Some, None, Option, refl}
use Rattle.std.proofs.Common.{arith, sym, ap₂, ◌∙◌}
use Rattle.std.specs.Coded.{Coded-set, coded_ℕ}
use Rattle.std.proofs.lemmas.Bool.{cases_eq}
use Rattle.deciding.specs.declared.record.Outcome.{Outcome}
use Rattle.deciding.specs.declared.record.Outcome.TheVariants.{Adopt, Commit}
use Rattle.deciding.specs.declared.record.Record.{Record}
use Rattle.deciding.specs.declared.record.Record.TheVariants.{Away, UnderWay, Answered}
use Rattle.deciding.specs.declared.record.Operation.{Operation}
use Rattle.deciding.specs.Laws.{Laws, stepped, record_prop}
use Rattle.deciding.specs.Machine.{Machine, Step, Beside, Enters, Steps}
use Rattle.deciding.specs.Sizes.{Sized, sizes_prop}
use Rattle.deciding.specs.Deciding.{Deciding}
use Rattle.sequence.specs.Joint.{Pair, pair, joined, Link, StepsFit, step_first, step_second, joint, Together}
use Rattle.sequence.specs.JointLaws.{Going, going, away_first, joined_laws}

link_prop : (a b : Record) → IsProp (Link a b)
link_prop Away b = record_prop b Away
link_prop (UnderWay v k) b = record_prop b Away
link_prop (Answered v k (Commit u)) b = record_prop b Away
link_prop (Answered v k (Adopt u)) Away = λ x y. absurd x
link_prop (Answered v k (Adopt u)) (UnderWay w j) = Coded-set coded_ℕ w u
link_prop (Answered v k (Adopt u)) (Answered w j o) = Coded-set coded_ℕ w u

-- a state is beside itself
beside_itself : (m : Machine) (s : ℕ) (x : m.State) → Beside m s x x
beside_itself m s x = record { stations = refl; limit = refl; registers = refl; ratifying = refl; refused = refl; others = λ t h. refl }

module _ (m n : Machine) (d : Deciding m) (e : Deciding n) where
  -- what a call of the station s leads to: p becomes q, and the record of s becomes r
  pub record Changes (s : ℕ) (p q : Pair m.State n.State) (r : Record) : Type 0 where
    pub reached : Together m n d e q
    pub beside : Beside (joint m n) s p q
    pub own : (joint m n).record_of q s ≡ r

  pub record StepOwes (p : Pair m.State n.State) (s v k : ℕ) (r : Step (Pair m.State n.State)) : Type 0 where
    pub changes : Changes s p r.next (stepped (UnderWay v k) r.outcome)
    pub below : r.operation.register < (joint m n).registers p

  module _ (x : m.State) (y : n.State) (s : ℕ) (together : Together m n d e (pair x y)) where
    -- both parts moved at s alone, and what the second knows of s is what the first gave it
    changes : (x' : m.State) (y' : n.State) → d.Reached x' → e.Reached y' → Beside m s x x' → Beside n s y y' → Link (m.record_of x' s) (n.record_of y' s) →
        (r : Record) → joined (m.record_of x' s) (n.record_of y' s) ≡ r → Changes s (pair x y) (pair x' y') r
    changes x' y' reached_x reached_y f g l r own = record {
      reached = record {
        first = reached_x;
        second = reached_y;
        stations = g.stations ∙ together.stations ∙ sym f.stations;
        sizes = rw (f.stations, f.limit, g.limit, f.registers, g.registers) together.sizes;
        linked = λ t. grind (arith, cases_eq t s, l, f.others t, g.others t, together.linked t);
      };
      beside = record {
        stations = f.stations;
        limit = ap₂ ◌+◌ f.limit g.limit;
        registers = ap₂ ◌+◌ f.registers g.registers;
        ratifying = ap₂ ◌||◌ f.ratifying g.ratifying;
        refused = refl;
        others = λ t h. ap₂ joined (f.others t h) (g.others t h);
      };
      own = own;
    }

    pub enter_changes : (v : ℕ) → Enters (joint m n) (pair x y) s v → Changes s (pair x y) (pair (m.enter x s v) y) (UnderWay v 0)
    enter_changes v h =
        let linked = together.linked s in
        let g : Enters m x s v = record { below = h.below; away = away_first (m.record_of x s) (n.record_of y s) h.away; small = h.small } in
        let own = d.enter_own x s v together.first g in
        changes (m.enter x s v) y (d.enter_reached x s v together.first g) together.second (d.enter_beside x s v together.first g) (beside_itself n s y)
        (grind (arith, g.away, own, linked)) (UnderWay v 0) (grind (arith, own))

    -- a step in the first part, which came to x' with the outcome o
    first_changes : (v k : ℕ) → s < m.stations x → m.record_of x s ≡ UnderWay v k → (i : Operation) (o : Option Outcome) (x' : m.State) → d.Reached x' → Beside m s x x' →
        m.record_of x' s ≡ stepped (UnderWay v k) o →
        let r = step_first m n (pair x y) s (record { operation = i; outcome = o; next = x' }) in
        Changes s (pair x y) r.next (stepped (UnderWay v k) r.outcome)
    first_changes v k below at i None x' reached_x f p =
        changes x' y reached_x together.second f (beside_itself n s y) (grind (arith, at, p, together.linked s)) (UnderWay v (k + 1)) (grind (arith, p))
    first_changes v k below at i (Some (Commit w)) x' reached_x f p =
        changes x' y reached_x together.second f (beside_itself n s y) (grind (arith, at, p, together.linked s)) (Answered v (k + 1) (Commit w)) (grind (arith, p))
    first_changes v k below at i (Some (Adopt w)) x' reached_x f p =
        let laws = d.laws x' reached_x in
        let linked = together.linked s in
        let g : Enters n y s w = record {
          below = rw together.stations below;
          away = grind (arith, at, linked);
          small = let (t, h) = laws.valid s (Adopt w) (rw p refl) in laws.small t w h;
        } in
        let own = e.enter_own y s w together.second g in
        changes x' (n.enter y s w) reached_x (e.enter_reached y s w together.second g) f (e.enter_beside y s w together.second g)
        (grind (arith, p, own)) (UnderWay v (k + 1)) (grind (arith, p, own))

    -- a step in the second part, which came to y' with the outcome o
    second_changes : (v k u i j : ℕ) → m.record_of x s ≡ Answered v i (Adopt u) → n.record_of y s ≡ UnderWay u j → k ≡ i + j → (a : Operation) (o : Option Outcome) (y' : n.State) → e.Reached y' →
        Beside n s y y' → n.record_of y' s ≡ stepped (UnderWay u j) o →
        let r = step_second m n (pair x y) (record { operation = a; outcome = o; next = y' }) in
        Changes s (pair x y) r.next (stepped (UnderWay v k) r.outcome)
    second_changes v k u i j p q sum a None y' reached_y g h =
        changes x y' together.first reached_y (beside_itself m s x) g (grind (arith, p, h)) (UnderWay v (k + 1)) (grind (arith, p, h))
    second_changes v k u i j p q sum a (Some o) y' reached_y g h =
        changes x y' together.first reached_y (beside_itself m s x) g (grind (arith, p, h)) (Answered v (k + 1) o) (grind (arith, p, h))

    step_changes : (c v k : ℕ) → s < m.stations x → Going (m.record_of x s) (n.record_of y s) v k → StepOwes (pair x y) s v k ((joint m n).step (pair x y) s c)
    step_changes c v k below (Going.first at) =
        let r = m.step x s c in
        let g : Steps m x s v k = record { below = below; under_way = at } in
        rw at
        (record {
          changes = first_changes v k below at r.operation r.outcome r.next (d.step_reached x s c v k together.first g) (d.step_beside x s c v k together.first g) (d.step_own x s c v k together.first g);
          below = omega (arith, d.step_below x s c v k together.first g);
        })
    step_changes c v k below (Going.second u i j p q sum) =
        let r = n.step y s c in
        let g : Steps n y s u j = record { below = rw together.stations below; under_way = q } in
        rw p
        (record {
          changes = second_changes v k u i j p q sum r.operation r.outcome r.next (e.step_reached y s c u j together.second g) (e.step_beside y s c u j together.second g) (e.step_own y s c u j together.second g);
          below = omega (arith, e.step_below y s c u j together.second g);
        })

  pub joint_steps : (p : Pair m.State n.State) (s c v k : ℕ) → Together m n d e p → Steps (joint m n) p s v k → StepOwes p s v k ((joint m n).step p s c)
  joint_steps p s c v k t h =
      step_changes p.first p.second s t c v k h.below (going (m.record_of p.first s) (n.record_of p.second s) v k (t.linked s) h.under_way)

  pub joint_sized : (p : Pair m.State n.State) → Together m n d e p → Sized None (m.stations p.first) ((joint m n).limit p) ((joint m n).registers p) ((joint m n).ratifying p)
  joint_sized p t = record { made = λ _. t.sizes; unmade = λ r h. cc }

  pub joint_laws : (p : Pair m.State n.State) → Together m n d e p → Laws ((joint m n).limit p) ((joint m n).ratifying p) ((joint m n).record_of p)
  joint_laws p t =
      joined_laws (m.limit p.first) (n.limit p.second) (m.ratifying p.first) (n.ratifying p.second) (m.record_of p.first) (n.record_of p.second) t.linked
      (d.laws p.first t.first) (e.laws p.second t.second)

  -- the steps of both parts stay within the joined limit, and so can be counted
  pub steps_fit : (p : Pair m.State n.State) → Together m n d e p → (s : ℕ) → StepsFit (m.record_of p.first s) (n.record_of p.second s)
  steps_fit p t s = grind (arith, t.sizes, (d.laws p.first t.first).bounded_end s, (e.laws p.second t.second).bounded s, (e.laws p.second t.second).bounded_end s)

  pub together_prop : (p : Pair m.State n.State) → IsProp (Together m n d e p)
  together_prop p a b = λ i. record {
    first = d.reached_prop p.first a.first b.first i;
    second = e.reached_prop p.second a.second b.second i;
    stations = Coded-set coded_ℕ _ _ a.stations b.stations i;
    sizes = sizes_prop _ _ _ a.sizes b.sizes i;
    linked = λ s. link_prop (m.record_of p.first s) (n.record_of p.second s) (a.linked s) (b.linked s) i;
  }

  abbrev pub joint_deciding : Deciding (joint m n)
  joint_deciding = record {
    Reached = Together m n d e;
    reached_prop = together_prop;
    enter_reached = λ p s v t h. (enter_changes p.first p.second s t v h).reached;
    enter_beside = λ p s v t h. (enter_changes p.first p.second s t v h).beside;
    enter_own = λ p s v t h. (enter_changes p.first p.second s t v h).own;
    step_reached = λ p s c v k t h. (joint_steps p s c v k t h).changes.reached;
    step_beside = λ p s c v k t h. (joint_steps p s c v k t h).changes.beside;
    step_own = λ p s c v k t h. (joint_steps p s c v k t h).changes.own;
    step_below = λ p s c v k t h. (joint_steps p s c v k t h).below;
    away = λ p s t h. rw (d.away p.first s t.first h) refl;
    sized = joint_sized;
    laws = joint_laws;
  }
