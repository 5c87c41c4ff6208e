use Rattle.std.proofs.Common.{ap}
use Rattle.std.specs.Int.Count.{ones_in}
use Rattle.tables.specs.HalfSets.{entry}
use Rattle.tables.specs.Picked.{picked}
use Rattle.tables.proofs.half_sets.entry.Goals as goal

-- the constant is computed to be the list of the numbers with five ones
pub returns : goal.returns
unfolding picked ones_in
returns c = ap entry c.from.ensures
