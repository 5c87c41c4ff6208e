use Rattle.std.proofs.Common.{◌∙◌, ap}
use Rattle.std.specs.Result.{result_err}
use Rattle.deciding.specs.Refusable.{refused_with}
use Rattle.sequence.specs.Making.{new_reached}
use Rattle.sequence.proofs.Sequence.new.Goals as goal

pub invariant_of-result : goal.invariant_of-result
invariant_of-result g c =
    let G = g.X.DecidingObject in
    let K = g.Y.DecidingObject in
    record {
      reached = new_reached G.machine K.machine G.deciding K.deciding (G.state c.args.first) (K.state c.args.second)
          (g.met.X.DecidingObject.reached c.args.first) (g.met.Y.DecidingObject.reached c.args.second) _
          (c.err-refused.ensures.value ∙ ap result_err c.ask.ensures ∙ refused_with _);
    }
