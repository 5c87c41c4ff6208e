use Rattle.std.proofs.Common.{rules, tests, arith}
use Rattle.std.proofs.lemmas.Iterator.{YieldsList-from_range}
use Rattle.std.proofs.lemmas.Iterator.Adapters.{option_map_id}
use Rattle.std.proofs.lemmas.Iterator.Consumers.{YieldsList-from_filter, nth_from_yields_List}
use Rattle.std.proofs.lemmas.Nat.Bits.{shr_and_one}
use Rattle.std.proofs.lemmas.Option.{unwrap_or-slice_get}
use Rattle.tables.specs.HalfSets.{bit_is}
use Rattle.tables.specs.Picked.{picked}
use Rattle.tables.proofs.half_sets.register_at.Goals as goal

pub returns : goal.returns
unfolding picked
returns c =
    let found = nth_from_yields_List c.nth.result c.nth.new.self c.from.result c.nth.ensures.ran
    (YieldsList-from_filter _ (bit_is c.args.number c.args.bit) (YieldsList-from_range 0 _ 11 c.filter.ensures.source (omega arith)) c.filter.ensures.closure
    (λ x r q k. search (rules, tests, shr_and_one))) in
    search (rules, found, option_map_id, unwrap_or-slice_get)
