-- What a run consumes lies within the schedule, and what ends it, if not the end of the schedule, is one of the first four
-- questions.
use Rattle.std.proofs.Common.{ℕ, zero, suc, ◌+◌, ◌-◌, ◌≤◌, List, [], ◌∷◌, length, Result, arith}
use Rattle.std.proofs.lemmas.Bool.Decides.{nat_tests}
use Rattle.refusal.specs.declared.Refusal.{Refusal}
use Rattle.refusal.specs.Numbers.{number_of, number_or_zero}
use Rattle.schedule.specs.declared.pile.Pile.{Pile}
use Rattle.schedule.specs.Script.{Item, command, broken, operands, item, tail, items}
use Rattle.rehearsal.specs.declared.verdict.Verdict.{Verdict}
use Rattle.rehearsal.specs.declared.verdict.Verdict.TheVariants.{Ends, Halts, Refuses, Begins, Asks}
use Rattle.rehearsal.specs.Responders.{Responder}
use Rattle.rehearsal.specs.Runs.{start_verdict, item_verdict, verdict, done, Report, reported, report, run_of}

-- AN ITEM: its operands are there, and what breaks it is one of the first four questions
abbrev Fine : Item → ℕ → Type 0
Fine (command k ops) left = operands k ≤ left
Fine (broken q) left = number_of q ≤ 4

item_fine : (b : ℕ) (bs : List ℕ) → Fine (item b bs) (length bs)
item_fine b bs = grind (arith, nat_tests)

tail_within : (x : Item) (left : ℕ) → Fine x left → tail x ≤ left
tail_within x left h = grind arith

-- A VERDICT that ends the run does so by one of the first four questions
abbrev Early : Verdict → Type 0
Early (Ends q) = number_or_zero q ≤ 4
Early (Halts q) = number_of q ≤ 4
Early (Refuses q) = Unit {0}
Early (Begins u) = Unit {0}
Early (Asks c) = Unit {0}

start_early : (p : Result Pile Refusal) (n leader : ℕ) → Early (start_verdict p n leader)
start_early p n leader = grind arith

item_early : (x : Item) (left : ℕ) → Fine x left → Early (item_verdict x)
item_early x left h = grind (arith, start_early)

early : (room : ℕ) (x : Item) (left : ℕ) → Fine x left → Early (verdict room x)
early room x left h = grind (arith, item_early x left h)

-- THE RUN of what is left
pub record Bounded (size : ℕ) (r : Report) : Type 0 where
  pub consumed : r.consumed ≤ size
  pub ended : number_or_zero r.ended ≤ 4

done_bounded : (v : Verdict) (st : Responder) (n size room : ℕ) (rest : ℕ → Responder → Report) → Early v → ((k : ℕ) (s : Responder) → Bounded size (rest k s)) →
    Bounded (n + size) (reported (done v st) n room rest)
done_bounded v st n size room rest e h = grind (arith, h)

items_bounded : (n : ℕ) (bs : List ℕ) → n ≤ length bs → (room : ℕ) (st : Responder) → Bounded (length bs - n) (report (items n bs) room st)
items_bounded n [] h room st = record { consumed = omega arith; ended = omega arith }
items_bounded zero (b ∷ bs) h room st =
    let x = item b bs in
    let fine = item_fine b bs in
    let within = tail_within x (length bs) fine in
    let here = done_bounded (verdict room x) st (1 + tail x) (length bs - tail x) room (report (items (tail x) bs)) (early room x (length bs) fine) (items_bounded (tail x) bs within) in
    record { consumed = omega (arith, here.consumed); ended = here.ended }
items_bounded (suc n) (b ∷ bs) h room st = let rest = items_bounded n bs (omega arith) room st in record { consumed = omega (arith, rest.consumed); ended = rest.ended }

pub run_bounded : (bs : List ℕ) (room : ℕ) → Bounded (length bs) (run_of bs room)
run_bounded bs room = grind (arith, items_bounded 0 bs)
