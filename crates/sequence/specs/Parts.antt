-- The two parts of a sequence, over their own meaning.
use Rattle.std.specs.Prelude.{◌≡◌, None, Option}
use Rattle.refusal.specs.declared.Refusal.{Refusal}
use Rattle.deciding.specs.declared.object.DecidingObject.{Ghosts}
use Rattle.deciding.specs.Refusable.{Made, RefusableReached, reached_prop, with_refusal}
use Rattle.sequence.specs.Joint.{Pair, pair, joint, Together}
use Rattle.sequence.specs.JointDeciding.{joint_deciding}

module _ {X Y : Type 0} (G : Ghosts X) (K : Ghosts Y) where
  abbrev pub parts : X → Y → Pair G.machine.State K.machine.State
  parts x y = pair (G.state x) (K.state y)

  -- they began new, one after the other, and were changed by enter and step of the whole only
  abbrev pub PartsReached : X → Y → Type 0
  PartsReached x y = Together G.machine K.machine G.deciding K.deciding (parts x y)

  -- what a sequence of the code keeps, of its parts and whether it was refused
  abbrev pub SequenceReached : X → Y → Option Refusal → Type 0
  SequenceReached x y q = RefusableReached (joint G.machine K.machine) (joint_deciding G.machine K.machine G.deciding K.deciding) (with_refusal (parts x y) q)

  pub sequence_reached_prop : (x : X) (y : Y) (q : Option Refusal) → IsProp (SequenceReached x y q)
  sequence_reached_prop x y q = reached_prop (joint G.machine K.machine) (joint_deciding G.machine K.machine G.deciding K.deciding) (with_refusal (parts x y) q)

  -- of one whose making passed this says the same of the parts
  pub parts_reached : (x : X) (y : Y) (q : Option Refusal) → q ≡ None → SequenceReached x y q → PartsReached x y
  parts_reached x y q is reached = let made : Made (joint G.machine K.machine) (joint_deciding G.machine K.machine G.deciding K.deciding) (parts x y) = rw is at reached in made.reached

  pub sequence_reached : (x : X) (y : Y) (q : Option Refusal) → q ≡ None → PartsReached x y → SequenceReached x y q
  sequence_reached x y q is reached = rw is (record { reached = reached; sizes = reached.sizes })
