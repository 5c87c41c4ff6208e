-- The coin conciliator keeps the laws: its tries end, and the last read finds a mark.
use Rattle.std.specs.Prelude.{◌≡◌, ℕ, ◌+◌, ◌<◌, ◌≤◌, ◌≢◌, List, slice_index, refl}
use Rattle.std.proofs.Common.{mod-lt, arith}
use Rattle.std.proofs.lemmas.Bool.Decides.{nat_tests}
use Rattle.conciliators.specs.declared.coin.Coin.{Coin}
use Rattle.conciliators.specs.declared.coin.CoinPhase.{CoinPhase}
use Rattle.conciliators.specs.declared.coin.CoinPhase.TheVariants.{Try, Write, Confirm}
use Rattle.machine.specs.Protocol.{content_of}
use Rattle.machine.specs.Kept.{Kept}
use Rattle.conciliators.specs.Adopting.{Leads, EmptyOrMark, adopting_kept}
use Rattle.conciliators.specs.Coin.{coin_plan, coin_turn, coin_conciliator}
use Rattle.conciliators.specs.Doublings.{doublings_to, doublings_few, doublings_left}

-- Try t is step t + 1, and no try comes after the one whose power is at least n. Where a station confirms, the register is in use.
abbrev Placed : Coin → ℕ → ℕ → CoinPhase → Type 0
Placed u x k (Try t) = (k ≡ t) × (t ≤ doublings_to u.stations)
Placed u x k Write = k ≤ doublings_to u.stations + 1
Placed u x k Confirm = (k ≤ doublings_to u.stations + 2) × (x ≢ 0)

turned : (u : Coin) (xs : List ℕ) (s c v k : ℕ) (ph : CoinPhase) → s < u.stations → Placed u (slice_index xs 0) k ph →
    let x = content_of xs (coin_plan u s v ph) in
    Leads (Placed u x (k + 1)) v x (coin_turn u s v ph x c)
turned u xs s c v k ph below placed = grind (arith, nat_tests, doublings_left, mod-lt)

pub coin_kept : Kept coin_conciliator EmptyOrMark
coin_kept = adopting_kept coin_conciliator (record {
  one_register = λ u. refl;
  not_ratifying = refl;
  limit_within = λ u some few. (omega arith, omega (arith, doublings_few u.stations));
  Placed = Placed;
  begun = λ u x. (refl, omega arith);
  written = λ u x w k ph placed. grind arith;
  bounded = λ u x k ph placed. grind arith;
  planned = λ u s v ph. grind arith;
  turned = turned;
})
