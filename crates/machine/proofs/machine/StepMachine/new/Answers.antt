use Rattle.std.proofs.Common.{◌∙◌, ap}
use Rattle.std.specs.Result.{result_err}
use Rattle.deciding.specs.Refusable.{refused_with}
use Rattle.machine.specs.Frame.{new_reached}
use Rattle.machine.proofs.machine.StepMachine.new.Goals as goal

pub invariant_of-result-clause-reached : goal.invariant_of-result-clause-reached
invariant_of-result-clause-reached g c =
    new_reached g.P.Protocol.rules g.P.Protocol.kept c.args.protocol (g.B.Board.contents c.args.board) _
    (c.err-refused.ensures.value ∙ ap result_err c.ask.ensures ∙ refused_with _)
