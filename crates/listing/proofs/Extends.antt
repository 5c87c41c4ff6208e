-- A listing extended by pieces, and by words.
use Rattle.std.proofs.Common.{◌≡◌, ℕ, ◌+◌, ◌<◌, ◌≤◌, List, [], ◌∷◌, ◌++◌, length, arith, length-append}
use Rattle.std.proofs.lemmas.List.{nil_from_length}
use Rattle.listing.specs.declared.word.Word.{Word}
use Rattle.listing.specs.Over.{Extends}
use Rattle.listing.specs.Words.{between, line_of, spelled}
use Rattle.listing.proofs.Overs.{over_none, over_append}

pub extends_append : {bs mid new : List ℕ} {at end last : ℕ} {a b : List ℕ} → at ≤ length bs → Extends bs at a end mid → Extends mid end b last new → Extends bs at (a ++ b) last new
extends_append {bs} {mid} {new} {at} {end} {last} {a} {b} h x y = grind (arith, over_append bs at a b h, length-append)

pub between_last : (ws : List Word) → length ws ≡ 0 → between ws ≡ 10
between_last ws e = grind arith

pub between_more : (ws : List Word) → 0 < length ws → between ws ≡ 32
between_more ws h = grind arith

-- a word, what stands after it, and the rest of the line
pub line_long : (w : Word) (rest : List Word) → length (line_of (w ∷ rest)) ≡ length (spelled w) + (1 + length (line_of rest))
unfolding line_of
line_long w rest = grind (arith, length-append)

pub extends_line : {bs one two new : List ℕ} {at n k end : ℕ} (ws : List Word) (w : Word) (rest : List Word) (x : ℕ) → ws ≡ w ∷ rest → x ≡ between rest → at + length (line_of ws) ≤ length bs →
    Extends bs at (spelled w) n one → Extends one n (x ∷ []) k two → Extends two k (line_of rest) end new → Extends bs at (line_of ws) end new
unfolding line_of
extends_line {bs} {one} {two} {new} {at} {n} {k} {end} ws w rest x is sep room a b c =
    let long = line_long w rest in
    let whole : Extends bs at (spelled w ++ (x ∷ line_of rest)) end new = extends_append (grind arith) a (extends_append (grind arith) b c) in
    grind arith

-- where no words are left
pub extends_end : (bs : List ℕ) (at : ℕ) (ws : List Word) → length ws ≡ 0 → Extends bs at (line_of ws) at bs
unfolding line_of
extends_end bs at ws e = grind (arith, over_none, nil_from_length)
