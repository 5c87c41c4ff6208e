-- The run as its code comes to it: the listing, the place in the schedule and what answers calls are carried along.
use Rattle.std.specs.Prelude.{◌≡◌, ℕ, ◌+◌, ◌-◌, ◌<◌, ◌≤◌, if◌then◌else◌, List, [], ◌∷◌, length, drop, None, Ok, Err, Option, Result, nat_lt}
use Rattle.std.specs.declared.ops.ControlFlow.{ControlFlow}
use Rattle.std.specs.declared.ops.ControlFlow.TheVariants.{Break, Continue}
use Rattle.refusal.specs.declared.Refusal.{Refusal}
use Rattle.deciding.specs.Machine.{Machine}
use Rattle.listing.specs.declared.Listing.{Listing}
use Rattle.listing.specs.Over.{over}
use Rattle.listing.specs.Lines.{text}
use Rattle.schedule.specs.declared.pile.Pile.{Pile}
use Rattle.schedule.specs.declared.reader.Reader.{Reader}
use Rattle.schedule.specs.Script.{Item, script, tail}
use Rattle.schedule.specs.Reading.{reading}
use Rattle.rehearsal.specs.declared.verdict.Start.{Start}
use Rattle.rehearsal.specs.declared.verdict.Verdict.{Verdict}
use Rattle.rehearsal.specs.declared.verdict.Verdict.TheVariants.{Ends, Halts, Refuses, Begins, Asks}
use Rattle.rehearsal.specs.Lines.{listed}
use Rattle.rehearsal.specs.Piles.{built}
use Rattle.rehearsal.specs.Responders.{Responder}
use Rattle.rehearsal.specs.Runs.{verdict, Done, over_with, on_with, done, trial_begun, pile_begun}

-- THE NEXT COMMAND

-- where the reader stands after a command of so many bytes; one that ends the run is not passed
abbrev pub past : Verdict → ℕ → ℕ → ℕ
past (Ends q) p size = p
past (Halts q) p size = p
past (Refuses q) p size = p + size
past (Begins u) p size = p + size
past (Asks c) p size = p + size

-- the end of the schedule asks nothing
abbrev pub judging : List ℕ → ℕ → ℕ → Verdict
judging bs p room = if nat_lt p (length bs) then verdict room (reading bs p) else Ends None

abbrev pub Judges : List ℕ → ℕ → ℕ → Verdict → ℕ → Type 0
Judges bs p room r q = (r ≡ judging bs p room) × (q ≡ past r p (1 + tail (reading bs p)))

-- what an N comes to
abbrev pub verdict_of : Result Start Refusal → Verdict
verdict_of (Ok u) = Begins u
verdict_of (Err q) = Refuses q

-- a command that can be read does not end the run
abbrev pub GoesOn : Verdict → Type 0
GoesOn (Ends q) = ⊥
GoesOn (Halts q) = ⊥
GoesOn (Refuses q) = Unit {0}
GoesOn (Begins u) = Unit {0}
GoesOn (Asks c) = Unit {0}

-- a command with a line finds room for it, and one that does not end the run is passed
abbrev pub Moves : ℕ → ℕ → ℕ → Verdict → ℕ → Type 0
Moves size room p (Ends q) to = to ≡ p
Moves size room p (Halts q) to = (48 ≤ room) × (to ≡ p)
Moves size room p (Refuses q) to = (48 ≤ room) × (p < to) × (to ≤ size)
Moves size room p (Begins u) to = (48 ≤ room) × (p < to) × (to ≤ size)
Moves size room p (Asks c) to = (48 ≤ room) × (p < to) × (to ≤ size)

-- THE REST OF THE RUN

pub record Final : Type 0 where
  pub listing : List ℕ
  pub consumed : ℕ
  pub written : ℕ
  pub ended : Option Refusal

abbrev pub went : Done → ℕ → List ℕ → ℕ → (ℕ → List ℕ → ℕ → Responder → Final) → Final
went (over_with ls q) p bytes w rest = record { listing = over bytes w (listed ls); consumed = p; written = w + length (listed ls); ended = q }
went (on_with l st) p bytes w rest = rest p (over bytes w (text l)) (w + length (text l)) st

-- how a run ends that stands at p in its schedule, has written w bytes of its listing, and has these items before it
abbrev pub finish : List Item → ℕ → List ℕ → ℕ → Responder → Final
finish [] p bytes w st = record { listing = bytes; consumed = p; written = w; ended = None }
finish (x ∷ xs) p bytes w st =
    let v = verdict (length bytes - w) x in
    went (done v st) (past v p (1 + tail x)) bytes w (finish xs)

-- the same, of a run that begins a trial of an object in the state x
abbrev pub started : Pile → (m : Machine) → m.State → List Item → ℕ → List ℕ → ℕ → Final
started k m x xs p bytes w = went (trial_begun k m x) p bytes w (finish xs)

-- the same, of a run that begins the pile that an N asks for
abbrev pub renewed : Start → List Item → ℕ → List ℕ → ℕ → Final
renewed u xs p bytes w = went (pile_begun u.pile (built u.pile u.stations u.leader)) p bytes w (finish xs)

-- THE RUN OF THE CODE

-- a run on its way: where it stands in its schedule, and its listing so far
pub record Run : Type 0 where
  pub reader : Reader
  pub listing : Listing

abbrev pub run_at : Reader → Listing → Run
run_at r l = record { reader = r; listing = l }

-- how many bytes of the listing are free
abbrev pub room_of : Listing → ℕ
room_of l = length l.bytes.now - l.end

-- what the schedule still holds
abbrev pub coming : Run → List Item
coming x = script (drop x.reader.position x.reader.schedule.now)

abbrev pub finishes : Run → Responder → Final
finishes x st = finish (coming x) x.reader.position x.listing.bytes.now x.listing.end st

abbrev pub starts : Run → Pile → (m : Machine) → m.State → Final
starts x k m s = started k m s (coming x) x.reader.position x.listing.bytes.now x.listing.end

abbrev pub renews : Run → Start → Final
renews x u = renewed u (coming x) x.reader.position x.listing.bytes.now x.listing.end

-- it is a run of the same schedule still, and lists to the same memory
abbrev pub Stays : Run → Run → Type 0
Stays x y = (y.reader.schedule ≡ x.reader.schedule) × (y.listing.bytes.ghost_name ≡ x.listing.bytes.ghost_name)

-- the run that was to end with f has ended, by q
abbrev pub HasEnded : Final → Option Refusal → Run → Type 0
HasEnded f q x = f ≡ record { listing = x.listing.bytes.now; consumed = x.reader.position; written = x.listing.end; ended = q }

-- the run that is to end with f has come to where serving left off
abbrev pub Arrives : Final → ControlFlow (Option Refusal) Start → Run → Type 0
Arrives f (Break q) x = HasEnded f q x
Arrives f (Continue u) x = f ≡ renews x u

-- where a pile is to begin there is room for its line, and a command was passed
abbrev pub Waits : Run → ControlFlow (Option Refusal) Start → Run → Type 0
Waits x (Break q) y = Unit {0}
Waits x (Continue u) y = (48 ≤ room_of y.listing) × (x.reader.position < y.reader.position) × (y.reader.position ≤ length y.reader.schedule.now)

-- how much of a run is left, at the most
abbrev pub left : ControlFlow (Option Refusal) Start → Run → ℕ
left (Break q) x = 0
left (Continue u) x = 1 + (length x.reader.schedule.now - x.reader.position)
