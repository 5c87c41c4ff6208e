-- The making of a sequence, and the questions that it asks of its parts, in this order: has each 1 to 16 stations, have both as
-- many, are all records away, are the joined limit and registers at most 1,000.
use Rattle.std.specs.Prelude.{◌≡◌, ◌+◌, Bool, true, cond, ◌&&◌, Some, None, Option, ◌==◌, nat_le}
use Rattle.std.proofs.Common.{arith}
use Rattle.std.proofs.lemmas.Bool.Decides.{nat_tests}
use Rattle.refusal.specs.declared.Refusal.{Refusal}
use Rattle.refusal.specs.declared.Refusal.TheVariants.{StationCount, StationsDiffer, NotAllAway, TooLarge}
use Rattle.deciding.specs.Away.{all_away}
use Rattle.deciding.specs.Machine.{Machine}
use Rattle.deciding.specs.Sizes.{one_to_sixteen}
use Rattle.deciding.specs.Deciding.{Deciding}
use Rattle.deciding.specs.Questions.{all_are_away}
use Rattle.deciding.specs.Refusable.{Made, Refusable, RefusableReached, sizes_where_made, with_refusal}
use Rattle.sequence.specs.Joint.{Pair, pair, joint, Together}
use Rattle.sequence.specs.JointDeciding.{joint_deciding}

module _ (m n : Machine) (x : m.State) (y : n.State) where
  abbrev pub counted : Bool
  counted = one_to_sixteen (m.stations x) && one_to_sixteen (n.stations y)

  abbrev pub as_many : Bool
  as_many = m.stations x == n.stations y

  abbrev pub untouched : Bool
  untouched = all_away (m.record_of x) 16 && all_away (n.record_of y) 16

  abbrev pub within : Bool
  within = nat_le (m.limit x + n.limit y) 1000 && nat_le (m.registers x + n.registers y) 1000

  abbrev pub sequence_refusal : Option Refusal
  sequence_refusal =
      cond counted
      (cond as_many
      (cond untouched
      (cond within None (Some TooLarge))
      (Some NotAllAway))
      (Some StationsDiffer))
      (Some StationCount)

  abbrev pub sequence_made : Refusable (Pair m.State n.State)
  sequence_made = with_refusal (pair x y) sequence_refusal

module _ (m n : Machine) (d : Deciding m) (e : Deciding n) (x : m.State) (y : n.State) (reached_x : d.Reached x) (reached_y : e.Reached y) where
  -- parts whose questions pass go together
  pub together : sequence_refusal m n x y ≡ None → Together m n d e (pair x y)
  together none =
      let few_x : one_to_sixteen (m.stations x) ≡ true = grind arith in
      let few_y : one_to_sixteen (n.stations y) ≡ true = grind arith in
      let sizes = sizes_where_made m d x reached_x few_x in
      record {
        first = reached_x;
        second = reached_y;
        stations = grind (arith, nat_tests);
        sizes = record {
          some_stations = sizes.some_stations;
          few_stations = sizes.few_stations;
          some_steps = omega (arith, sizes.some_steps);
          few_steps = grind (arith, nat_tests);
          some_registers = omega (arith, sizes.some_registers);
          few_registers = grind (arith, nat_tests);
        };
        linked = λ s. grind (arith, all_are_away m d x reached_x few_x, all_are_away n e y reached_y few_y);
      }

  made : sequence_refusal m n x y ≡ None → Made (joint m n) (joint_deciding m n d e) (pair x y)
  made none = let reached = together none in record { reached = reached; sizes = reached.sizes }

  -- whatever a making leaves is reached
  pub sequence_made_reached : RefusableReached (joint m n) (joint_deciding m n d e) (sequence_made m n x y)
  sequence_made_reached = grind (arith, made)

  -- so is a sequence of the code, just made
  pub new_reached : (q : Option Refusal) → q ≡ sequence_refusal m n x y → RefusableReached (joint m n) (joint_deciding m n d e) (with_refusal (pair x y) q)
  new_reached q is = rw is sequence_made_reached
