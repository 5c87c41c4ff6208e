-- What a command that was read comes to.
use Rattle.std.proofs.Common.{◌≡◌, ℕ, ◌+◌, ◌<◌, ◌≤◌, List, length, refl, arith}
use Rattle.std.proofs.lemmas.Bool.{le-leb, lt-ltb}
use Rattle.schedule.specs.Script.{Item}
use Rattle.schedule.specs.Reading.{reading}
use Rattle.rehearsal.specs.declared.verdict.Verdict.{Verdict}
use Rattle.rehearsal.specs.Runs.{item_verdict}
use Rattle.rehearsal.specs.Serving.{judging, past, GoesOn, Moves}

pub judged : (bs : List ℕ) (p room : ℕ) (x : Item) → p < length bs → 48 ≤ room → x ≡ reading bs p → judging bs p room ≡ item_verdict x
judged bs p room x here enough is = rw (lt-ltb p (length bs) here, ← is, le-leb 48 room enough) refl

pub moved : (r : Verdict) (room p q size n : ℕ) → GoesOn r → 48 ≤ room → q ≡ p + n → p < q → q ≤ size → (q ≡ past r p n) × Moves size room p r q
moved r room p q size n goes h e j l = grind arith
