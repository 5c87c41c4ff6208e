-- The coin conciliator: a station that finds the register empty writes its mark with a chance that doubles from try to try.
use Rattle.std.specs.Prelude.{ℕ, ◌+◌, ◌-◌, ◌%◌, ◌^◌, false, if◌then◌else◌, None, ◌==◌, nat_lt}
use Rattle.deciding.specs.declared.record.Outcome.TheVariants.{Adopt}
use Rattle.machine.specs.declared.status.Plan.{Plan}
use Rattle.machine.specs.declared.status.Plan.TheVariants.{Read as Reading, Write as Writing}
use Rattle.machine.specs.Turn.{Turn, On, End}
use Rattle.conciliators.specs.declared.coin.Coin.{Coin}
use Rattle.conciliators.specs.declared.coin.CoinPhase.{CoinPhase}
use Rattle.conciliators.specs.declared.coin.CoinPhase.TheVariants.{Try, Write, Confirm}
use Rattle.machine.specs.Protocol.{Protocol}
use Rattle.conciliators.specs.Doublings.{doublings_to}

abbrev pub coin_plan : Coin → ℕ → ℕ → CoinPhase → Plan
coin_plan u s v (Try t) = Reading 0
coin_plan u s v Write = Writing 0 (v + 1)
coin_plan u s v Confirm = Reading 0

-- where try t of one of n stations leads, by the coin c, if the register is empty: 2 ^ t of the n remainders let the station write
abbrev pub by_coin : ℕ → ℕ → ℕ → CoinPhase
by_coin n t c = if nat_lt (c % n) (2 ^ t) then Write else Try (t + 1)

-- a content other than 0 is a mark and 1
abbrev pub coin_turn : Coin → ℕ → ℕ → CoinPhase → ℕ → ℕ → Turn CoinPhase
coin_turn u s v (Try t) x c = if x == 0 then On (by_coin u.stations t c) else End (Adopt (x - 1))
coin_turn u s v Write x c = On Confirm
coin_turn u s v Confirm x c = End (Adopt (x - 1))

-- The last try is the one whose power is at least n: then every coin lets the station write, which leaves the write and one read.
abbrev pub coin_conciliator : Protocol Coin CoinPhase
coin_conciliator = record {
  stations = λ u. u.stations;
  limit = λ u. doublings_to u.stations + 3;
  registers = λ u. 1;
  ratifying = false;
  question = λ u. None;
  begun = Try 0;
  plan = coin_plan;
  turn = coin_turn;
}
