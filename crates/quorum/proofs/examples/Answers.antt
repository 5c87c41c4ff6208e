use Rattle.std.proofs.Common.{rules}
use Rattle.tables.specs.BitPairs.{listed}
use Rattle.quorum.proofs.examples.Goals as goal

pub returns-clause-examples : goal.returns-clause-examples
unfolding listed
returns-clause-examples c = search rules
