-- No line is longer than 48 bytes.
use Rattle.std.proofs.Common.{ℕ, ◌^◌, ◌<◌, ◌≤◌, length, Some, None, decimal, arith, length-append}
use Rattle.std.proofs.lemmas.Fmt.{length-decimal-le}
use Rattle.refusal.specs.declared.Refusal.{Refusal}
use Rattle.refusal.specs.Numbers.{number_of}
use Rattle.deciding.specs.declared.record.Access.{Access}
use Rattle.deciding.specs.declared.record.Operation.{Operation}
use Rattle.deciding.specs.declared.record.Outcome.{Outcome}
use Rattle.deciding.specs.Laws.{mark}
use Rattle.schedule.specs.declared.pile.Pile.{Pile as PileName}
use Rattle.schedule.specs.Piles.{number_of_pile}
use Rattle.schedule.proofs.Numbers.{pile_digit}
use Rattle.listing.specs.declared.line.Line.TheVariants as line
use Rattle.listing.specs.Words.{line_of, spelled}
use Rattle.listing.specs.Lines.{access_word, outcome_word, text}

-- the most digits that numbers of one digit, one byte and two bytes have
one : (n : ℕ) → n < 10 → length (decimal n) ≤ 1
one n h = grind (arith, length-decimal-le 1 n)

three : (n : ℕ) → n < 2 ^ 8 → length (decimal n) ≤ 3
three n h = grind (arith, length-decimal-le 3 n)

five : (n : ℕ) → n < 2 ^ 16 → length (decimal n) ≤ 5
five n h = grind (arith, length-decimal-le 5 n)

access_short : (a : Access) → length (spelled (access_word a)) ≤ 5
access_short a = grind arith

outcome_short : (o : Outcome) → length (spelled (outcome_word o)) ≤ 6
outcome_short o = grind arith

refusal_short : (q : Refusal) → number_of q < 100
refusal_short q = grind arith

-- with the widest numbers this line is 48 bytes long, and no other reaches that
pub pile_short : (p : PileName) (n m r : ℕ) → n < 2 ^ 8 → m < 2 ^ 16 → r < 2 ^ 16 → length (text (line.Pile p n m r)) ≤ 48
unfolding line_of text
pile_short p n m r hn hm hr = simp length-append (omega (arith, one (number_of_pile p) (pile_digit p), three n hn, five m hm, five r hr))

pub entered_short : (s v : ℕ) → s < 2 ^ 8 → v < 2 ^ 8 → length (text (line.Entered s v)) ≤ 48
unfolding line_of text
entered_short s v hs hv = simp length-append (omega (arith, three s hs, three v hv))

pub stepped_short : (s : ℕ) (i : Operation) → s < 2 ^ 8 → i.register < 2 ^ 16 → i.content < 2 ^ 16 → length (text (line.Stepped s i None)) ≤ 48
unfolding line_of text
stepped_short s i hs hr hc = simp length-append (omega (arith, three s hs, access_short i.access, five i.register hr, five i.content hc))

pub outcome_stepped_short : (s : ℕ) (i : Operation) (o : Outcome) → s < 2 ^ 8 → i.register < 2 ^ 16 → i.content < 2 ^ 16 → mark o < 2 ^ 8 → length (text (line.Stepped s i (Some o))) ≤ 48
unfolding line_of text
outcome_stepped_short s i o hs hr hc hu =
    simp length-append (omega (arith, three s hs, access_short i.access, five i.register hr, five i.content hc, outcome_short o, three (mark o) hu))

pub stopped_short : (s : ℕ) → s < 2 ^ 8 → length (text (line.Stopped s)) ≤ 48
unfolding line_of text
stopped_short s hs = simp length-append (omega (arith, three s hs))

pub refused_short : (q : Refusal) → length (text (line.Refused q)) ≤ 48
unfolding line_of text
refused_short q = simp length-append (omega (arith, three (number_of q) (omega (arith, refusal_short q))))

-- whatever kind of line it is
pub ruleset short = (pile_short, entered_short, stepped_short, outcome_stepped_short, stopped_short, refused_short)
