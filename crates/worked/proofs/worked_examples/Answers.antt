use mathlib.Core.Path.{refl}
use Rattle.deciding.specs.Away.{all_away}
use Rattle.rehearsal.specs.Piles.{built}
use Rattle.worked.proofs.worked_examples.Goals as goal

pub returns : goal.returns
unfolding built all_away
returns c = record {
  sizes = refl;
  worked = record { tables = c.examples.ensures.examples; conciliators = c.examples-2.ensures.examples; quorum = c.examples-3.ensures.examples; piles = refl };
}
