-- One more event: what it adds to a list of events, and how a station's record goes along with it.
use Rattle.std.proofs.Common.{◌≡◌, ℕ, ◌+◌, ◌≢◌, ◌⊎◌, ◌↔◌, List, [], ◌∷◌, ◌++◌, Some, Option, inl, inr, ⊎_elim, arith, Ok, Err}
use Rattle.std.proofs.lemmas.Bool.Decides.{nat_tests}
use Rattle.deciding.specs.declared.record.Outcome.{Outcome}
use Rattle.deciding.specs.declared.record.Record.{Record}
use Rattle.deciding.specs.declared.record.Record.TheVariants.{Away, UnderWay}
use Rattle.deciding.specs.declared.record.Operation.{Operation}
use Rattle.deciding.specs.Laws.{Proposes, Ends, stepped as record_after}
use Rattle.refusal.specs.declared.Refusal.{Refusal}
use Rattle.trial.specs.declared.call.Call.{Call}
use Rattle.trial.specs.declared.call.Call.TheVariants.{Enter as enter, Step as step, Stop as stop}
use Rattle.trial.specs.declared.call.Effect.TheVariants.{Entered as entered, Stepped as stepped, Stopped as stopped}
use Rattle.trial.specs.Events.{Event, ◌gives◌, Among, steps, steps_in}
use Rattle.trial.specs.Law.{steps_of, Shows}

-- the events with one more at the end
abbrev pub more : List Event → Event → List Event
more past y = past ++ (y ∷ [])

pub among_past : (e y : Event) (past : List Event) → Among e past → Among e (more past y)
among_past e y [] h = absurd h
among_past e y (x ∷ xs) h = grind (arith, among_past e y xs)

pub among_last : (e y : Event) (past : List Event) → e ≡ y → Among e (more past y)
among_last e y [] h = inl h
among_last e y (x ∷ xs) h = inr (among_last e y xs h)

pub among_more : (e y : Event) (past : List Event) → Among e (more past y) → Among e past ⊎ (e ≡ y)
among_more e y [] h = grind arith
among_more e y (x ∷ xs) h = grind (arith, among_more e y xs)

pub steps_more : (s : ℕ) (y : Event) (past : List Event) → steps s (more past y) ≡ steps s past + steps_in s y
steps_more s y [] = omega arith
steps_more s y (x ∷ xs) = omega (arith, steps_more s y xs)

-- the record of s goes from r to r' with the event y
pub record Turns (s : ℕ) (r : Record) (y : Event) (r' : Record) : Type 0 where
  pub proposal : (v : ℕ) → Proposes r' v ↔ (Proposes r v ⊎ ((enter s v gives Ok entered) ≡ y))
  pub count : steps_of r' ≡ steps_of r + steps_in s y
  pub outcome : (o : Outcome) → Ends r' o ↔ (Ends r o ⊎ ((c : ℕ) × (i : Operation) × ((step s c gives Ok (stepped i (Some o))) ≡ y)))

pub shows_more : (s : ℕ) (past : List Event) (y : Event) (r r' : Record) → Turns s r y r' → Shows s past r → Shows s (more past y) r'
shows_more s past y r r' t h = record {
  proposal = λ v. (λ p. ⊎_elim (λ q. among_past _ y past ((h.proposal v).0 q)) (λ q. among_last _ y past q) ((t.proposal v).0 p), λ a. (t.proposal v).1 (⊎_elim (λ q. inl ((h.proposal v).1 q)) inr (among_more _ y past a)));
  count = omega (arith, t.count, h.count, steps_more s y past);
  outcome = λ o. (λ p. ⊎_elim (λ q. let (c, i, b) = (h.outcome o).0 q in (c, i, among_past _ y past b)) (λ q. (q.0, q.1, among_last _ y past q.2)) ((t.outcome o).0 p), λ a. (t.outcome o).1 (⊎_elim (λ q. inl ((h.outcome o).1 (a.0, a.1, q))) (λ q. inr (a.0, a.1, q)) (among_more _ y past a.2)));
}

-- an event that is no accepted enter or step of s
pub record Quiet (s : ℕ) (y : Event) : Type 0 where
  pub no_enter : (v : ℕ) → (enter s v gives Ok entered) ≢ y
  pub no_step : (c : ℕ) (i : Operation) (o : Option Outcome) → (step s c gives Ok (stepped i o)) ≢ y
  pub count : steps_in s y ≡ 0

pub quiet_turns : (s : ℕ) (r : Record) (y : Event) → Quiet s y → Turns s r y r
quiet_turns s r y q = grind (arith, q.no_enter, q.no_step)

pub refused_quiet : (s : ℕ) (c : Call) (k : Refusal) → Quiet s (c gives Err k)
refused_quiet s c k = grind arith

pub stopped_quiet : (s t : ℕ) → Quiet s (stop t gives Ok stopped)
stopped_quiet s t = grind arith

pub entered_quiet : (s t v : ℕ) → s ≢ t → Quiet s (enter t v gives Ok entered)
entered_quiet s t v h = grind arith

pub stepped_quiet : (s t c : ℕ) (i : Operation) (o : Option Outcome) → s ≢ t → Quiet s (step t c gives Ok (stepped i o))
stepped_quiet s t c i o h = grind (arith, nat_tests)

pub entered_turns : (s v : ℕ) → Turns s Away (enter s v gives Ok entered) (UnderWay v 0)
entered_turns s v = grind arith

pub stepped_turns : (s c v k : ℕ) (i : Operation) (o : Option Outcome) → Turns s (UnderWay v k) (step s c gives Ok (stepped i o)) (record_after (UnderWay v k) o)
stepped_turns s c v k i o = grind (arith, nat_tests)
