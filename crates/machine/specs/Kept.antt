-- An invariant of a protocol: what it owes so that every machine of the protocol, on every board, is a deciding object.
use Rattle.std.specs.Prelude.{◌≡◌, ℕ, ◌<◌, ◌≤◌, List, length, slice_index, slice_index_or, slice_set}
use Rattle.deciding.specs.Laws.{Laws, marks}
use Rattle.machine.specs.declared.status.Status.{Status}
use Rattle.machine.specs.declared.status.Status.TheVariants.{Absent, Running}
use Rattle.machine.specs.Protocol.{Protocol, shown, register_of, content_of, contents_after, status_after}

-- how many rows a table has
abbrev pub rows : ℕ
rows = 16

-- of a limit or a count of registers
abbrev pub Within : ℕ → Type 0
Within k = (1 ≤ k) × (k ≤ 1000)

-- the table has a row for each station, and the board has all the registers
pub record Fitting {Setup Phase : Type 0} (p : Protocol Setup Phase) (u : Setup) (xs : List ℕ) (t : List (Status Phase)) : Type 0 where
  pub few : p.stations u ≤ rows
  pub rows : length t ≡ rows
  pub room : p.registers u ≤ length xs

-- `Meets` says what a station may find by the operation of a phase.
module _ {Setup Phase : Type 0} (p : Protocol Setup Phase) (Meets : Phase → ℕ → Type 0) where
  pub record Kept : Type 1 where
    -- of the setup, the contents and the table
    pub Inv : Setup → List ℕ → List (Status Phase) → Type 0
    -- It holds of a new machine: all registers empty, no station in the table.
    pub new : (u : Setup) (xs : List ℕ) (t : List (Status Phase)) → Fitting p u xs t →
        ((i : ℕ) → i < p.registers u → slice_index xs i ≡ 0) → ((s : ℕ) → slice_index_or t s Absent ≡ Absent) → Inv u xs t
    -- An accepted enter keeps it.
    pub enter_kept : (u : Setup) (xs : List ℕ) (t : List (Status Phase)) (s v : ℕ) → Fitting p u xs t → Inv u xs t → s < p.stations u → v < marks →
        slice_index_or t s Absent ≡ Absent → Inv u xs (slice_set t s (Running v 0 p.begun))
    -- An accepted step keeps it, whatever the coin.
    pub step_kept : (u : Setup) (xs : List ℕ) (t : List (Status Phase)) (s c v k : ℕ) (ph : Phase) → Fitting p u xs t → Inv u xs t → s < p.stations u →
        slice_index_or t s Absent ≡ Running v k ph →
        let plan = p.plan u s v ph in
        Inv u (contents_after xs plan) (slice_set t s (status_after v k (p.turn u s v ph (content_of xs plan) c)))
    -- What a station finds is what it may meet, in a register of the machine.
    pub meets : (u : Setup) (xs : List ℕ) (t : List (Status Phase)) (s v k : ℕ) (ph : Phase) → Inv u xs t → s < p.stations u →
        slice_index_or t s Absent ≡ Running v k ph → Meets ph (content_of xs (p.plan u s v ph))
    pub below : (u : Setup) (xs : List ℕ) (t : List (Status Phase)) (s v k : ℕ) (ph : Phase) → Inv u xs t → s < p.stations u →
        slice_index_or t s Absent ≡ Running v k ph → register_of (p.plan u s v ph) < p.registers u
    pub within : (u : Setup) → 1 ≤ p.stations u → p.stations u ≤ rows → Within (p.limit u) × Within (p.registers u)
    -- It gives the four laws.
    pub gives : (u : Setup) (xs : List ℕ) (t : List (Status Phase)) → Fitting p u xs t → ((s : ℕ) → p.stations u ≤ s → slice_index_or t s Absent ≡ Absent) →
        Inv u xs t → Laws (p.limit u) p.ratifying (λ s. shown (slice_index_or t s Absent))
