-- How a schedule is read: letter by letter, each with its operands, one byte each.
use Rattle.std.specs.Prelude.{ℕ, zero, suc, cond, List, [], ◌∷◌, length, take, ◌==◌, nat_le}
use Rattle.refusal.specs.declared.Refusal.{Refusal}
use Rattle.refusal.specs.declared.Refusal.TheVariants.{UnknownLetter, OperandsMissing}

pub data Kind : Type 0 where
  new enter step stop : Kind

-- what begins at a letter: a command with its operands, or why there is none
pub data Item : Type 0 where
  command : Kind → List ℕ → Item
  broken : Refusal → Item

abbrev pub operands : Kind → ℕ
operands new = 3
operands enter = 2
operands step = 2
operands stop = 1

abbrev pub with_operands : Kind → List ℕ → Item
with_operands k bs = cond (nat_le (operands k) (length bs)) (command k (take (operands k) bs)) (broken OperandsMissing)

-- the item of a letter, N, E, S or L, before the bytes bs
abbrev pub item : ℕ → List ℕ → Item
item b bs =
    cond (b == 78) (with_operands new bs)
    (cond (b == 69) (with_operands enter bs)
    (cond (b == 83) (with_operands step bs)
    (cond (b == 76) (with_operands stop bs) (broken UnknownLetter))))

-- how many bytes after its letter belong to an item; to a broken one, none
abbrev pub tail : Item → ℕ
tail (command k ops) = operands k
tail (broken q) = 0

-- the items of a schedule; its first bytes, as many as the number says, still belong to the item before
abbrev pub items : ℕ → List ℕ → List Item
items n [] = []
items zero (b ∷ bs) = item b bs ∷ items (tail (item b bs)) bs
items (suc n) (b ∷ bs) = items n bs

abbrev pub script : List ℕ → List Item
script bs = items 0 bs
