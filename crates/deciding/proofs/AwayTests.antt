-- Asking one record after another whether it is away.
use Rattle.std.proofs.Common.{◌≡◌, ℕ, true, refl}
use Rattle.deciding.specs.declared.record.Record.{Record}
use Rattle.deciding.specs.declared.record.Record.TheVariants.{Away}
use Rattle.deciding.specs.Away.{all_away}
use Rattle.deciding.specs.Questions.{away_decides}

-- where every record is away, they all are
pub away_all : (f : ℕ → Record) → ((s : ℕ) → f s ≡ Away) → (k : ℕ) → all_away f k ≡ true
away_all f away k = (away_decides f k).1 (λ s _. rw (away s) refl)
