-- The numbers of the piles.
use Rattle.std.specs.Prelude.{◌≡◌, ℕ, cond, Ok, Err, Result, ◌==◌, ◌≢◌}
use Rattle.refusal.specs.declared.Refusal.{Refusal}
use Rattle.refusal.specs.declared.Refusal.TheVariants.{UnknownPile}
use Rattle.schedule.specs.declared.pile.Pile.{Pile}
use Rattle.schedule.specs.declared.pile.Pile.TheVariants.{Collect, Quorum, CoinCollect, LeaderQuorum, CollectCoinQuorum, QuorumLeaderCoinCollect}

abbrev pub number_of_pile : Pile → ℕ
number_of_pile Collect = 1
number_of_pile Quorum = 2
number_of_pile CoinCollect = 3
number_of_pile LeaderQuorum = 4
number_of_pile CollectCoinQuorum = 5
number_of_pile QuorumLeaderCoinCollect = 6

-- the pile of a number, which is refused where it is no pile's
abbrev pub pile_numbered : ℕ → Result Pile Refusal
pile_numbered n =
    cond (n == 1) (Ok Collect)
    (cond (n == 2) (Ok Quorum)
    (cond (n == 3) (Ok CoinCollect)
    (cond (n == 4) (Ok LeaderQuorum)
    (cond (n == 5) (Ok CollectCoinQuorum)
    (cond (n == 6) (Ok QuorumLeaderCoinCollect) (Err UnknownPile))))))

-- the same, both ways: a number that names a pile is that pile's, and one that is refused is no pile's
abbrev pub Names : ℕ → Result Pile Refusal → Type 0
Names n (Ok p) = number_of_pile p ≡ n
Names n (Err e) = ((p : Pile) → number_of_pile p ≢ n) × (e ≡ UnknownPile)
