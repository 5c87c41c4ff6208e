-- What a call answers: what it brought about, or why it was refused.
use Rattle.std.specs.Prelude.{Result}
use Rattle.refusal.specs.declared.Refusal.{Refusal}
use Rattle.trial.specs.declared.call.Effect.{Effect}

abbrev pub Answer : Type 0
Answer = Result Effect Refusal
