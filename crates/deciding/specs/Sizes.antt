-- How large an object may be: 1 to 16 stations, and 1 to 1,000 for its limit and its registers.
-- One whose making was refused is nothing at all.
use Rattle.std.specs.Prelude.{◌≡◌, ℕ, ◌≤◌, Bool, false, ◌&&◌, Some, None, Option, nat_le}
use Rattle.std.proofs.Props.{props}
use Rattle.refusal.specs.declared.Refusal.{Refusal}

abbrev pub one_to_sixteen : ℕ → Bool
one_to_sixteen n = nat_le 1 n && nat_le n 16

pub record Sizes (stations limit registers : ℕ) : Type 0 where
  pub some_stations : 1 ≤ stations
  pub few_stations : stations ≤ 16
  pub some_steps : 1 ≤ limit
  pub few_steps : limit ≤ 1000
  pub some_registers : 1 ≤ registers
  pub few_registers : registers ≤ 1000

pub record Nothing (stations limit registers : ℕ) (ratifying : Bool) : Type 0 where
  pub no_stations : stations ≡ 0
  pub no_steps : limit ≡ 0
  pub no_registers : registers ≡ 0
  pub not_ratifying : ratifying ≡ false

pub record Sized (refused : Option Refusal) (stations limit registers : ℕ) (ratifying : Bool) : Type 0 where
  pub made : refused ≡ None → Sizes stations limit registers
  pub unmade : (r : Refusal) → refused ≡ Some r → Nothing stations limit registers ratifying

pub sizes_prop : (n k r : ℕ) → IsProp (Sizes n k r)
sizes_prop n k r = hlevel props
