-- The contents that bytes hold, two to each, high byte first.
use Rattle.std.specs.Prelude.{◌≡◌, ℕ, ◌<◌, ◌≤◌, ◌+◌, ◌*◌, ◌/◌, ◌%◌, min, List, map, length, drop, Ok, Err, Result, slice_index, slice_set, refl}
use Rattle.std.specs.List.{range_with_len}
use Rattle.refusal.specs.declared.Refusal.{Refusal}
use Rattle.refusal.specs.declared.Refusal.TheVariants.{NoSuchRegister}

-- how many registers so many bytes make
abbrev pub registers : ℕ → ℕ
registers n = min (n / 2) 64

-- the content of register i
abbrev pub content_at : List ℕ → ℕ → ℕ
content_at bs i = 256 * slice_index bs (2 * i) + slice_index bs (2 * i + 1)

unfoldable pub contents_of : List ℕ → List ℕ
contents_of bs = map (content_at bs) (range_with_len 0 (registers (length bs)))

-- where the first of the two bytes of register i stands, if there is a register i
abbrev pub Placed : List ℕ → ℕ → Result ℕ Refusal → Type 0
Placed bs i (Ok at) = (i < registers (length bs)) × (at ≡ 2 * i)
Placed bs i (Err e) = (registers (length bs) ≤ i) × (e ≡ NoSuchRegister)

-- the bytes after a write of w to register i
abbrev pub bytes_after : List ℕ → ℕ → ℕ → Result (Unit {0}) Refusal → List ℕ
bytes_after bs i w (Ok u) = slice_set (slice_set bs (2 * i) (w / 256)) (2 * i + 1) (w % 256)
bytes_after bs i w (Err e) = bs

-- the bytes that hold no register are the same, and as many
abbrev pub Beyond : List ℕ → List ℕ → Type 0
Beyond old new = (length new ≡ length old) × (drop (2 * registers (length old)) new ≡ drop (2 * registers (length old)) old)

pub beyond_same : (old : List ℕ) → Beyond old old
beyond_same old = (refl, refl)

pub beyond_on : (a b c : List ℕ) → Beyond a b → Beyond b c → Beyond a c
beyond_on a b c p q = (cc, cc)
