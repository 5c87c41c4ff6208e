-- A machine on an empty board that is large enough is made.
use Rattle.std.proofs.Common.{◌≡◌, ℕ, ◌≤◌, true, List, get_or, replicate, None, ap, arith}
use lib.ListN.{length-replicate}
use Rattle.std.proofs.lemmas.Bool.Decides.{nat_tests}
use Rattle.deciding.specs.declared.record.Record.TheVariants.{Away}
use Rattle.deciding.specs.Sizes.{one_to_sixteen}
use Rattle.machine.specs.declared.status.Status.TheVariants.{Absent}
use Rattle.machine.specs.Protocol.{Protocol, shown}
use Rattle.machine.specs.Kept.{rows}
use Rattle.machine.specs.Frame.{all_default, empties}
use Rattle.machine.specs.Making.{empty_below, refusal_of, fresh}

empty_board : (k j : ℕ) → empty_below (replicate k 0) j ≡ true
empty_board k j = (empties (replicate k 0) j).1 (λ i _. grind (arith, nat_tests, all_default {A = ℕ} k 0 i))

module _ {Setup Phase : Type 0} (p : Protocol Setup Phase) (u : Setup) where
  pub passes : (k : ℕ) → one_to_sixteen (p.stations u) ≡ true → p.question u ≡ None → p.registers u ≤ k → refusal_of p u (replicate k 0) ≡ None
  passes k few asked room = grind (arith, nat_tests, few, asked, empty_board k (p.registers u), length-replicate {A = ℕ} k 0)

  pub fresh_away : (xs : List ℕ) (s : ℕ) → shown (get_or (fresh p u xs).table s Absent) ≡ Away
  fresh_away xs s = ap shown (all_default rows Absent s)
