use Rattle.std.proofs.Common.{refl, rules, tests}
use Rattle.std.proofs.lemmas.List.FromFn.{fill_by_all, get_or-range_with_len}
use Rattle.std.specs.Int.Count.{ones_in}
use Rattle.tables.specs.BitPairs.{listed, written}
use Rattle.tables.specs.BitPairsLawful.{listed_at}
use Rattle.tables.specs.HalfSetsLawful.{five_ones}
use Rattle.tables.specs.Picked.{picked}
use Rattle.tables.proofs.examples.Goals as goal

pub returns-clause-written : goal.returns-clause-written
unfolding listed
returns-clause-written c =
    fill_by_all (written 5) c.map.result 8 0 c.map.ensures.items.long
    (λ k l.
    let called = c.map.ensures.items.at k 0 0 l in
    search (rules, tests, called.2, get_or-range_with_len 0 8 k 0 l, listed_at (written 5) 8 k l))

pub returns-clause-examples : goal.returns-clause-examples
unfolding listed picked ones_in
returns-clause-examples c = record {
  bit_pairs_written = refl;
  bit_pairs_read = refl;
  first_entry = refl;
  entry_251 = refl;
  entry_252 = refl;
  half_sets_written = refl;
  half_sets_read = refl;
  numbers = five_ones;
}
