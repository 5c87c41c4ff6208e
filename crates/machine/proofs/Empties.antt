-- The question whether the first registers are empty, asked one by one.
use Rattle.std.proofs.Common.{◌≡◌, ℕ, zero, suc, ◌+◌, ◌<◌, Bool, true, false, ◌&&◌, eqb, List, get_or, refl, ⊎_elim, add-one, arith}
use Rattle.std.proofs.lemmas.Bool.{cases_eq}
use Rattle.machine.specs.Making.{empty_below}

false_either : (a b : Bool) → b ≡ false → (a && b) ≡ false
false_either true b e = e
false_either false b e = refl

pub empty_more : (xs : List ℕ) (i : ℕ) → eqb (get_or xs i 0) 0 ≡ true → empty_below xs i ≡ true → empty_below xs (i + 1) ≡ true
empty_more xs i here before = rw (add-one, here) before

pub not_empty : (xs : List ℕ) (i k : ℕ) → i < k → eqb (get_or xs i 0) 0 ≡ false → empty_below xs k ≡ false
not_empty xs i zero l e = absurd (omega arith)
not_empty xs i (suc k) l e =
    ⊎_elim
    (λ same. rw (← same, e))
    (λ other. false_either (eqb (get_or xs k 0) 0) (empty_below xs k) (not_empty xs i k (omega arith) e))
    (cases_eq i k)
