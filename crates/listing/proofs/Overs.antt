-- Bytes put over others, one piece after another.
use Rattle.std.proofs.Common.{◌≡◌, ℕ, ◌+◌, ◌-◌, ◌≤◌, List, [], ◌++◌, length, take, drop, refl, append_assoc, arith, length-append, length-drop, length-take, take-append-drop}
use Rattle.std.proofs.lemmas.Slice.{drop-append-drop}
use Rattle.std.proofs.lemmas.List.{take_at}
use Rattle.listing.specs.Over.{over}

pub over_none : (bs : List ℕ) (at : ℕ) → over bs at [] ≡ bs
unfolding over
over_none bs at = grind (arith, take-append-drop)

pub over_start : (bs ds : List ℕ) → over bs 0 ds ≡ ds ++ drop (length ds) bs
unfolding over
over_start bs ds = grind arith

-- the length, where the piece may pass the end
pub length-over_any : (bs : List ℕ) (at : ℕ) (ds : List ℕ) → at ≤ length bs → length (over bs at ds) ≡ at + (length ds + (length bs - (at + length ds)))
unfolding over
length-over_any bs at ds h = grind (arith, length-append, length-drop, length-take)

over_is : (bs : List ℕ) (at : ℕ) (ds : List ℕ) → over bs at ds ≡ take at bs ++ (ds ++ drop (at + length ds) bs)
unfolding over
over_is bs at ds = refl

take-over : (bs : List ℕ) (at n : ℕ) (ds : List ℕ) → at ≤ length bs → n ≡ at + length ds → take n (over bs at ds) ≡ take at bs ++ ds
unfolding over
take-over bs at n ds h e = grind (arith, take_at (take at bs ++ ds), append_assoc, length-append, length-take)

drop-over : (bs : List ℕ) (at n : ℕ) (ds : List ℕ) → at ≤ length bs → at + length ds ≤ n → drop n (over bs at ds) ≡ drop n bs
unfolding over
drop-over bs at n ds h e = grind (arith, drop-append-drop (at + length ds) bs (take at bs ++ ds) n e, append_assoc, length-append, length-take)

-- one piece after another
pub over_append : (bs : List ℕ) (at : ℕ) (a b : List ℕ) → at ≤ length bs → over (over bs at a) (at + length a) b ≡ over bs at (a ++ b)
over_append bs at a b h = grind (arith, over_is, take-over, drop-over, append_assoc, length-append)
