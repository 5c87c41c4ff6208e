-- What carrying out a plan does to the contents of a board, and what a step does to a station's row.
use Rattle.std.specs.Prelude.{◌≡◌, ℕ, ◌<◌, ◌≤◌, List, length, None, Ok, Err, Option, Result}
use Rattle.refusal.specs.declared.Refusal.{Refusal}
use Rattle.deciding.specs.declared.record.Operation.{Operation}
use Rattle.deciding.specs.declared.record.Outcome.{Outcome}
use Rattle.machine.specs.declared.status.Status.{Status}
use Rattle.machine.specs.declared.status.Status.TheVariants.{Absent, Running, Done}
use Rattle.machine.specs.declared.status.Plan.{Plan}
use Rattle.machine.specs.Protocol.{Protocol, register_of, contents_after, operation_of, status_after, outcome_of}

abbrev pub Carried : List ℕ → Plan → Result Operation Refusal → List ℕ → Type 0
Carried xs plan (Ok op) ys = (register_of plan < length xs) × (op ≡ operation_of xs plan) × (ys ≡ contents_after xs plan)
Carried xs plan (Err e) ys = (length xs ≤ register_of plan) × (ys ≡ xs)

-- the row of station s after a step that met the content x with the coin c, and the outcome that it brought;
-- a row that is not under way stays
module _ {Setup Phase : Type 0} (p : Protocol Setup Phase) (Meets : Phase → ℕ → Type 0) (u : Setup) (s x c : ℕ) where
  abbrev pub Advances : Status Phase → Option Outcome → Status Phase → Type 0
  Advances Absent r row = (r ≡ None) × (row ≡ Absent)
  Advances (Running v k ph) r row =
      s < p.stations u → Meets ph x → k < 1000 →
      let turn = p.turn u s v ph x c in (r ≡ outcome_of turn) × (row ≡ status_after v k turn)
  Advances (Done v k o) r row = (r ≡ None) × (row ≡ Done v k o)
