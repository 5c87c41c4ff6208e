use Rattle.std.proofs.Common.{◌^◌, ◌%◌, ◌<◌, ◌≤◌, rules, arith}
use Rattle.std.proofs.lemmas.Iterator.{first_from_Range}
use Rattle.conciliators.specs.Doublings.{smallest_is}
use Rattle.conciliators.proofs.Powers.{smallest_found}
use Rattle.conciliators.proofs.coin.doublings.Goals as goal

pub returns : goal.returns
returns c =
    let first = first_from_Range _ _ _ c.find.result (λ x. c.args.n ≤ 2 ^ x % 256) (λ x. 2 ^ x % 256 < c.args.n) c.find.ensures.ran (λ x q k. search rules) (λ x q k. search rules) in
    let smallest = smallest_found c.args.n (omega arith) c.find.result first in
    record { value = rw c.unwrap_or.ensures (smallest_is c.args.n _ smallest); smallest = rw c.unwrap_or.ensures smallest }
