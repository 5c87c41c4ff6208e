-- What is left of a schedule from a position on, for a loop over its commands.
use Rattle.std.proofs.Common.{◌≡◌, ℕ, zero, suc, ◌+◌, ◌<◌, ◌≤◌, List, [], ◌∷◌, length, drop, Some, None, Ok, Option, refl, arith}
use Rattle.std.proofs.lemmas.List.{drop_all, drop-drop, drop_more}
use Rattle.refusal.specs.declared.Refusal.{Refusal}
use Rattle.schedule.specs.declared.command.Command.{Command}
use Rattle.schedule.specs.Script.{broken, items, tail, script}
use Rattle.schedule.specs.Reading.{item_of, reading, Passed, Shows}

-- operands are passed over
pub items_skip : (n : ℕ) (bs : List ℕ) → items n bs ≡ script (drop n bs)
items_skip zero bs = refl
items_skip (suc n) [] = refl
items_skip (suc n) (b ∷ bs) = items_skip n bs

-- within the schedule: the item here, and the items after it
pub script_at : (bs : List ℕ) (p : ℕ) → p < length bs → script (drop p bs) ≡ reading bs p ∷ script (drop (p + 1 + tail (reading bs p)) bs)
script_at bs p here = grind (arith, drop_more bs p 0 here, items_skip, drop-drop)

pub script_end : (bs : List ℕ) (p : ℕ) → length bs ≤ p → script (drop p bs) ≡ []
script_end bs p past = grind (arith, drop_all)

module _ (bs : List ℕ) (p : ℕ) where
  pub script_passed : (c : Command) (q : ℕ) → Passed bs p c q → script (drop p bs) ≡ item_of c ∷ script (drop q bs)
  script_passed c q passed = grind (arith, script_at)

  pub script_broken : (e : Refusal) → p < length bs → broken e ≡ reading bs p → script (drop p bs) ≡ broken e ∷ script (drop (p + 1) bs)
  script_broken e here is = grind (arith, script_at)

-- what `next` promises, where its caller has taken the Option apart
pub shown_command : (bs : List ℕ) (p q : ℕ) {o : Option Command} {c : Command} → Shows bs p (Ok o) q → o ≡ Some c → Passed bs p c q
shown_command bs p q shows is = rw is at shows

pub shown_end : (bs : List ℕ) (p q : ℕ) {o : Option Command} → Shows bs p (Ok o) q → o ≡ None → (length bs ≤ p) × (q ≡ p)
shown_end bs p q shows is = rw is at shows
