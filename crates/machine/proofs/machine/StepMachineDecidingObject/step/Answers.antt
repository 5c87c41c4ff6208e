use Rattle.std.proofs.Common.{sym, arith, rules}
use Rattle.machine.specs.Protocol.{running}
use Rattle.machine.proofs.Seats.{made_there, made_steps}
use Rattle.machine.proofs.machine.StepMachineDecidingObject.step.Goals as goal
use base.Stored.{Coded-set}

-- without this answer a step that clears the row of a station that is done would be refused for a name first
pub returns-in-Done-clause-calls : goal.returns-in-Done-clause-calls
returns-in-Done-clause-calls g c = search rules

-- a reached machine finds its register
pub returns-in_err-operation-in-Running : goal.returns-in_err-operation-in-Running
returns-in_err-operation-in-Running g c =
    let self = c.args.self.now in
    let there = made_there g.P.Protocol.rules g.P.Protocol.kept (running self.protocol (g.B.Board.contents self.board) self.table) self.refused self.reached c.args.station (sym c.if-not-has.ensures)
    c.args.coin _ _ _ (sym c.in-Running.ensures) in
    absurd (grind (arith, there, c.plan-plan.ensures, c.in_err-operation-in-Running.ensures))

pub invariant_of-self-in-Running-clause-reached : goal.invariant_of-self-in-Running-clause-reached
invariant_of-self-in-Running-clause-reached g c =
    let self = c.args.self.now in
    let carried = c.in_ok-operation-in-Running.ensures in
    (made_steps g.P.Protocol.rules g.P.Protocol.kept (running self.protocol (g.B.Board.contents self.board) self.table) self.refused self.reached c.args.station (sym c.if-not-has.ensures)
    c.args.coin _ _ _ (sym c.in-Running.ensures)
    (Coded-set g.row.P-Phase.coded) c.plan-plan.result c.in_ok-operation-in-Running.operation _ _ _ c.advance-outcome.result c.advance-outcome.new.row
    c.plan-plan.ensures carried.1 carried.2 c.from.ensures c.advance-outcome.ensures).1

pub returns-in_ok-operation-in-Running-clause-calls : goal.returns-in_ok-operation-in-Running-clause-calls
returns-in_ok-operation-in-Running-clause-calls g c =
    let self = c.args.self.now in
    let carried = c.in_ok-operation-in-Running.ensures in
    (made_steps g.P.Protocol.rules g.P.Protocol.kept (running self.protocol (g.B.Board.contents self.board) self.table) self.refused self.reached c.args.station (sym c.if-not-has.ensures)
    c.args.coin _ _ _ (sym c.in-Running.ensures)
    (Coded-set g.row.P-Phase.coded) c.plan-plan.result c.in_ok-operation-in-Running.operation _ _ _ c.advance-outcome.result c.advance-outcome.new.row
    c.plan-plan.ensures carried.1 carried.2 c.from.ensures c.advance-outcome.ensures).0
