-- What the questions tell that a making asks of its parts.
use Rattle.std.specs.Prelude.{◌≡◌, ℕ, ◌<◌, true, Decides, refl}
use Rattle.std.proofs.Common.{arith}
use Rattle.std.proofs.lemmas.Bool.{cases_lt}
use Rattle.std.proofs.lemmas.Bool.Decides.{Decides-below_and, nat_tests}
use Rattle.deciding.specs.declared.record.Record.{Record}
use Rattle.deciding.specs.declared.record.Record.TheVariants.{Away}
use Rattle.deciding.specs.Away.{is_away, all_away}
use Rattle.deciding.specs.Sizes.{one_to_sixteen}
use Rattle.deciding.specs.Machine.{Machine}
use Rattle.deciding.specs.Deciding.{Deciding}

-- all the records below k are away just where the record of each is
pub away_decides : (f : ℕ → Record) (k : ℕ) → Decides (all_away f k) ((s : ℕ) → s < k → is_away (f s) ≡ true)
unfolding all_away
away_decides f k = Decides-below_and (λ s. is_away (f s)) (λ s. is_away (f s) ≡ true) (all_away f) (λ s. (λ e. e, λ e. e)) refl (λ n. grind arith) k

-- an object of at most sixteen stations, with the records of all sixteen away, has all its records away
pub all_are_away : (m : Machine) (d : Deciding m) (x : m.State) → d.Reached x → one_to_sixteen (m.stations x) ≡ true → all_away (m.record_of x) 16 ≡ true → (s : ℕ) → m.record_of x s ≡ Away
all_are_away m d x reached small h s = grind (arith, nat_tests, cases_lt s 16, (away_decides (m.record_of x) 16).0 h s, d.away x s reached, small)
