use Rattle.std.proofs.Common.{sym, arith}
use Rattle.machine.proofs.Seats.{made_enters}
use Rattle.machine.specs.Protocol.{running}
use Rattle.machine.proofs.machine.StepMachineDecidingObject.enter.Goals as goal

pub invariant_of-self-clause-reached : goal.invariant_of-self-clause-reached
invariant_of-self-clause-reached g c =
    let self = c.args.self.now in
    (made_enters g.P.Protocol.rules g.P.Protocol.kept (running self.protocol (g.B.Board.contents self.board) self.table) self.refused self.reached c.args.station (sym c.if-not-has.ensures)
    c.args.mark (omega arith) (sym c.in-Absent.ensures) c.from.result c.begin.result c.from.ensures c.begin.ensures).1
