-- A sequence of the code, as the definitions have it, over the parts' own meaning.
use Rattle.std.specs.Prelude.{◌≡◌, ℕ, ◌≤◌, true}
use Rattle.deciding.specs.declared.object.DecidingObject.{Ghosts}
use Rattle.deciding.specs.Refusable.{Refusable, refusable, refusable_deciding, with_refusal}
use Rattle.sequence.specs.declared.Sequence.{Sequence}
use Rattle.sequence.specs.Joint.{Pair, joint, goes_on}
use Rattle.sequence.specs.JointDeciding.{joint_deciding}
use Rattle.sequence.specs.Making.{sequence_made}
use Rattle.sequence.specs.Parts.{parts}

module _ {X Y : Type 0} (G : Ghosts X) (K : Ghosts Y) where
  -- what a sequence is as a deciding object, for clauses that name it
  abbrev pub both : Ghosts (Sequence X Y G K)
  both = record {
    machine = refusable (joint G.machine K.machine);
    deciding = refusable_deciding (joint G.machine K.machine) (joint_deciding G.machine K.machine G.deciding K.deciding);
    state = λ q. with_refusal (parts G K q.first q.second) q.refused;
  }

  abbrev pub made_of : X → Y → Refusable (Pair G.machine.State K.machine.State)
  made_of x y = sequence_made G.machine K.machine (G.state x) (K.state y)

  -- a step of a station that went on works on a register past all those of the first part
  abbrev pub SecondAfter : Type 0
  SecondAfter = (p : Pair G.machine.State K.machine.State) (s c : ℕ) → goes_on (G.machine.record_of p.first s) ≡ true →
      G.machine.registers p.first ≤ ((joint G.machine K.machine).step p s c).operation.register
