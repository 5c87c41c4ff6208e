-- A pile that begins: its line, and its trial with nobody stopped.
use Rattle.std.proofs.Common.{◌≡◌, ℕ, ◌+◌, List, length, Option, refl, ap}
use Rattle.std.specs.declared.ops.ControlFlow.{ControlFlow}
use Rattle.refusal.specs.declared.Refusal.{Refusal}
use Rattle.deciding.specs.Machine.{Machine}
use Rattle.deciding.specs.Refusable.{Refusable, refusable}
use Rattle.listing.specs.declared.line.Line.TheVariants as line
use Rattle.listing.specs.Over.{over}
use Rattle.listing.specs.Lines.{text}
use Rattle.schedule.specs.declared.pile.Pile.{Pile}
use Rattle.schedule.specs.Script.{Item}
use Rattle.trial.specs.Perform.{TrialState}
use Rattle.trial.specs.Trials.{new_trial}
use Rattle.rehearsal.specs.declared.verdict.Start.{Start}
use Rattle.sequence.specs.Joint.{Pair}
use Rattle.sequence.specs.Making.{sequence_made}
use Rattle.rehearsal.specs.Piles.{Built, built, in_sequence}
use Rattle.rehearsal.specs.Responders.{trial_in}
use Rattle.rehearsal.specs.Serving.{Run, finish, started, starts, renews, Arrives}

-- the line of the trial t, which is a new one, was written
pub begins_at : (m : Machine) (xs : List Item) (p : ℕ) (bytes : List ℕ) (at : ℕ) (k : Pile) (x : m.State) (t : TrialState (Refusable m.State)) (n l r : ℕ) (after : List ℕ) (w : ℕ) →
    t ≡ new_trial m x → n ≡ (refusable m).stations t.object → l ≡ (refusable m).limit t.object → r ≡ (refusable m).registers t.object →
    after ≡ over bytes at (text (line.Pile k n l r)) → w ≡ at + length (text (line.Pile k n l r)) →
    finish xs p after w (trial_in (refusable m) t) ≡ started k m x xs p bytes at
begins_at m xs p bytes at k x t n l r after w is is_n is_l is_r is_after is_w = rw (is_w, is_after, is_n, is_l, is_r, is) refl

-- an object in the state of the pile that an N asks for was made and served
pub pile_arrives : (x : Run) (u : Start) (r : ControlFlow (Option Refusal) Start) (y : Run) (d : Built) (s : d.machine.State) →
    built u.pile u.stations u.leader ≡ d → s ≡ d.start → Arrives (starts x u.pile d.machine s) r y → Arrives (renews x u) r y
pile_arrives x u r y d s asked is arrives = rw asked (rw is at arrives)

-- the state of a sequence of two piles just made
pub sequence_start : (a b : Built) (x : a.machine.State) (y : b.machine.State) (z : Refusable (Pair a.machine.State b.machine.State)) →
    x ≡ a.start → y ≡ b.start → z ≡ sequence_made a.machine b.machine x y → z ≡ (in_sequence a b).start
sequence_start a b x y z is_x is_y is_z = rw (is_z, is_x, is_y) refl

-- which pile is asked for
pub named : (p q : Pile) (n leader : ℕ) → p ≡ q → built p n leader ≡ built q n leader
named p q n leader e = ap (λ (k : Pile). built k n leader) e
