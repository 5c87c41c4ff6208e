-- The numbers of the piles.
use Rattle.std.proofs.Common.{ℕ, ◌<◌, arith}
use Rattle.schedule.specs.declared.pile.Pile.{Pile}
use Rattle.schedule.specs.Piles.{number_of_pile, pile_numbered, Names}

-- each has one digit
pub pile_digit : (p : Pile) → number_of_pile p < 10
pile_digit p = grind arith

-- a number names the pile that it is looked up as, and no pile where it is refused
pub numbered_names : (n : ℕ) → Names n (pile_numbered n)
numbered_names n = grind arith
