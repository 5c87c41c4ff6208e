use Rattle.std.proofs.Common.{◌≡◌, ◌∙◌, ap, rules}
use Rattle.std.specs.Result.{result_err}
use Rattle.deciding.specs.Refusable.{refused_with}
use Rattle.trial.specs.Perform.{trial_refusal}
use Rattle.trial.proofs.Makings.{trial_away, trial_reached}
use Rattle.trial.proofs.Trial.new.Goals as goal

pub returns-clause-begun : goal.returns-clause-begun
returns-clause-begun g c =
    let D = g.D.DecidingObject in
    let p = D.state c.args.pile in
    let began = g.met.D.DecidingObject.reached c.args.pile in
    let asked : c.err-refused.result ≡ trial_refusal D.machine p = c.err-refused.ensures.value ∙ ap result_err c.ask.ensures ∙ refused_with _ in
    record {
      reached = trial_reached D.machine D.deciding p began _ asked;
      away = trial_away D.machine D.deciding p began _ asked;
      stopped = λ s. search rules;
    }
