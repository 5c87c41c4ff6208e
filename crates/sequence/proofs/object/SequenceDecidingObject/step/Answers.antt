use Rattle.std.proofs.Common.{rules}
use Rattle.deciding.specs.Calls.{stepping_keeps}
use Rattle.sequence.specs.Joint.{joint}
use Rattle.sequence.specs.JointDeciding.{joint_deciding}
use Rattle.sequence.specs.Parts.{parts_reached, sequence_reached}
use Rattle.sequence.proofs.object.SequenceDecidingObject.step.Goals as goal

pub invariant_of-self : goal.invariant_of-self
invariant_of-self g c =
    let G = g.X.DecidingObject in
    let K = g.Y.DecidingObject in
    let d = joint_deciding G.machine K.machine G.deciding K.deciding in
    let parts = parts_reached G K _ _ _ c.in-None.is c.args.self.now.reached in
    record { reached = sequence_reached G K _ _ _ c.in-None.is (stepping_keeps (joint G.machine K.machine) d _ c.args.station parts c.args.coin _ _ (c.step_second.ensures parts (search rules))).1 }

pub invariant_of-self-in-None-2 : goal.invariant_of-self-in-None-2
invariant_of-self-in-None-2 g c =
    let G = g.X.DecidingObject in
    let K = g.Y.DecidingObject in
    let d = joint_deciding G.machine K.machine G.deciding K.deciding in
    let parts = parts_reached G K _ _ _ c.in-None.is c.args.self.now.reached in
    record { reached = sequence_reached G K _ _ _ c.in-None.is (stepping_keeps (joint G.machine K.machine) d _ c.args.station parts c.args.coin _ _ (c.step_first.ensures parts (search rules))).1 }
