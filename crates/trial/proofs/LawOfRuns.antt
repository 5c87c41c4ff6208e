-- The law of runs: the trial of a deciding object goes along with the events, and so these obey the law.
use Rattle.std.proofs.Common.{◌≡◌, ℕ, ◌<◌, ◌≤◌, Bool, true, false, if◌then◌else◌, not, eqb, ltb, ◌≢◌, ◌⊎◌, List, [], ◌∷◌, ◌++◌, Some, None, Decides, Option, refl, ◌∙◌, inl, inr, ⊎_elim, append_assoc, append-nil, arith, Ok, Err}
use mathlib.Core.Bool.{false≢true}
use Rattle.std.proofs.lemmas.Bool.{cases_eq}
use Rattle.std.proofs.lemmas.Bool.Decides.{nat_tests, Decides-ltb, Decides-not, Decides-like}
use Rattle.refusal.specs.declared.Refusal.{Refusal}
use Rattle.deciding.specs.declared.record.Outcome.{Outcome}
use Rattle.deciding.specs.declared.record.Outcome.TheVariants.{Commit}
use Rattle.deciding.specs.declared.record.Record.{Record}
use Rattle.deciding.specs.declared.record.Record.TheVariants.{Away, UnderWay, Answered}
use Rattle.deciding.specs.declared.record.Operation.{Operation}
use Rattle.deciding.specs.Laws.{Laws, mark, Proposes, Ends}
use Rattle.deciding.specs.Machine.{Machine, Step, Enters, Steps, Beside}
use Rattle.deciding.specs.Deciding.{Deciding}
use Rattle.trial.specs.declared.call.Call.{Call}
use Rattle.trial.specs.declared.call.Call.TheVariants.{Enter as enter, Step as step, Stop as stop}
use Rattle.trial.specs.Answers.{Answer}
use Rattle.trial.specs.declared.call.Effect.TheVariants.{Entered as entered, Stepped as stepped, Stopped as stopped}
use Rattle.trial.specs.Events.{Event, ◌gives◌, events_of, Among, Comes, Entered, Brought, Stopped}
use Rattle.trial.specs.Law.{Question, is_station, not_stopped, not_entered, has_entered, no_outcome, refusal, questions, Yes, FirstNo, AllYes, Judged, steps_of, Shows, Lawful, InRange}
use Rattle.trial.specs.Perform.{TrialState, begun, station_of, Small, AllSmall, Performed, unless, perform, answers, last}
use Rattle.trial.proofs.EventLists.{more, among_past, among_last, among_more, Turns, shows_more, Quiet, quiet_turns, refused_quiet, stopped_quiet, entered_quiet, stepped_quiet, entered_turns, stepped_turns}

apart : {P : Type 0} → ◌≡◌ {A = ℕ} 0 1 → P
apart e = absurd (omega arith)

-- QUESTIONS: what a trial does is to go through the questions of the law, by tests on its state, to the first no

abbrev came : Record → Bool
came Away = false
came (UnderWay v k) = true
came (Answered v k o) = true

abbrev answered : Record → Bool
answered Away = false
answered (UnderWay v k) = false
answered (Answered v k o) = true

abbrev first_no : (Question → Bool) → List Question → Option Refusal
first_no holds [] = None
first_no holds (q ∷ qs) = if holds q then first_no holds qs else Some (refusal q)

-- calls that are put to a trial, each with its answer
abbrev pub happened : (m : Machine) → TrialState m.State → List Call → List Event
happened m x calls = events_of calls (answers m x calls)

module _ (m : Machine) where
  abbrev says : TrialState m.State → ℕ → Question → Bool
  says x s is_station = ltb s (m.stations x.object)
  says x s not_stopped = not (x.stopped s)
  says x s not_entered = not (came (m.record_of x.object s))
  says x s has_entered = came (m.record_of x.object s)
  says x s no_outcome = not (answered (m.record_of x.object s))

  abbrev accepted : TrialState m.State → Call → Performed m
  accepted x (enter s v) = record { answer = Ok entered; next = record { object = m.enter x.object s v; stopped = x.stopped } }
  accepted x (step s c) =
      let r = m.step x.object s c in
      record { answer = Ok (stepped r.operation r.outcome); next = record { object = r.next; stopped = x.stopped } }
  accepted x (stop s) = record { answer = Ok stopped; next = record { object = x.object; stopped = λ t. if eqb t s then true else x.stopped t } }

  by_questions : (x : TrialState m.State) (c : Call) → perform m x c ≡ unless m x (first_no (says x (station_of c)) (questions c)) (accepted x c)
  by_questions x c = grind (arith, nat_tests)

abbrev Verdict : (Question → Type 0) → List Question → Option Refusal → Type 0
Verdict holds qs None = AllYes holds qs
Verdict holds qs (Some k) = FirstNo holds qs k

verdict : (f : Question → Bool) (holds : Question → Type 0) → ((q : Question) → Decides (f q) (holds q)) → (qs : List Question) → Verdict holds qs (first_no f qs)
verdict f holds agree [] = tt
verdict f holds agree (q ∷ qs) = grind (arith, agree q, verdict f holds agree qs)

-- what the record shows decides whether the station has entered, and whether it has its outcome
came_shown : (s : ℕ) (past : List Event) (r : Record) → Shows s past r → Decides (came r) ((v : ℕ) × Entered s v past)
came_shown s past Away h = (λ e. absurd (false≢true e), λ p. absurd ((h.proposal p.0).1 p.1))
came_shown s past (UnderWay v k) h = (λ e. (v, (h.proposal v).0 refl), λ p. refl)
came_shown s past (Answered v k o) h = (λ e. (v, (h.proposal v).0 refl), λ p. refl)

answered_shown : (s : ℕ) (past : List Event) (r : Record) → Shows s past r → Decides (answered r) ((o : Outcome) × Brought s o past)
answered_shown s past Away h = (λ e. absurd (false≢true e), λ p. absurd ((h.outcome p.0).1 p.1))
answered_shown s past (UnderWay v k) h = (λ e. absurd (false≢true e), λ p. absurd ((h.outcome p.0).1 p.1))
answered_shown s past (Answered v k o) h = (λ e. (o, (h.outcome o).0 refl), λ p. refl)

-- a station that has not entered is away; one that has, and has no outcome, is under way
away_shown : (s : ℕ) (past : List Event) (r : Record) → Shows s past r → ((v : ℕ) → ¬ Entered s v past) → r ≡ Away
away_shown s past Away h none = refl
away_shown s past (UnderWay v k) h none = absurd (none v ((h.proposal v).0 refl))
away_shown s past (Answered v k o) h none = absurd (none v ((h.proposal v).0 refl))

under_way_shown : (s : ℕ) (past : List Event) (r : Record) → Shows s past r → (v : ℕ) × Entered s v past → ((o : Outcome) → ¬ Brought s o past) → (v : ℕ) × (k : ℕ) × (r ≡ UnderWay v k)
under_way_shown s past Away h e none = absurd ((h.proposal e.0).1 e.1)
under_way_shown s past (UnderWay v k) h e none = (v, k, refl)
under_way_shown s past (Answered v k o) h e none = absurd (none o ((h.outcome o).0 refl))

among_comes : (e : Event) (events : List Event) → Among e events → (before : List Event) × (after : List Event) × (events ≡ before ++ (e ∷ after))
among_comes e [] h = absurd h
among_comes e (x ∷ xs) (inl h) = ([], xs, cc)
among_comes e (x ∷ xs) (inr h) = let (before, after, p) = among_comes e xs h in (x ∷ before, after, cc)

-- what the bounds on steps say of a record
within : (l : ℕ) (b : Bool) (g : ℕ → Record) → Laws l b g → (s : ℕ) (r : Record) → g s ≡ r → steps_of r ≤ l
within l b g laws s r e = grind (arith, laws.bounded s, laws.bounded_end s)

going_or_ended : (l : ℕ) (b : Bool) (g : ℕ → Record) → Laws l b g → (s : ℕ) (r : Record) → g s ≡ r → (v : ℕ) → Proposes r v → (steps_of r < l) ⊎ ((o : Outcome) × Ends r o)
going_or_ended l b g laws s Away e v h = absurd h
going_or_ended l b g laws s (UnderWay w k) e v h = inl (laws.bounded s w k e)
going_or_ended l b g laws s (Answered w k o) e v h = inr (o, refl)

-- THE TRIAL goes along with the events: its object is reached, its figures are those of the start, its records show the events,
-- and its marks of the stopped stations tell of the stops.
module _ (m : Machine) (d : Deciding m) (start : m.State) where
  record Followed (past : List Event) (x : TrialState m.State) : Type 0 where
    reached : d.Reached x.object
    stations : m.stations x.object ≡ m.stations start
    limit : m.limit x.object ≡ m.limit start
    registers : m.registers x.object ≡ m.registers start
    ratifying : m.ratifying x.object ≡ m.ratifying start
    shows : (s : ℕ) → Shows s past (m.record_of x.object s)
    stops : (s : ℕ) → Decides (x.stopped s) (Stopped s past)

  -- each question is answered as the events before would have it
  agrees : (past : List Event) (x : TrialState m.State) → Followed past x → (s : ℕ) (q : Question) → Decides (says m x s q) (Yes (m.stations start) past s q)
  agrees past x f s is_station = rw f.stations (Decides-ltb s (m.stations start))
  agrees past x f s not_stopped = Decides-not (x.stopped s) (f.stops s)
  agrees past x f s not_entered = let shown = came_shown s past (m.record_of x.object s) (f.shows s) in grind arith
  agrees past x f s has_entered = came_shown s past (m.record_of x.object s) (f.shows s)
  agrees past x f s no_outcome =
      let r = m.record_of x.object s in
      Decides-like (not (answered r)) (λ none o e. none (o, e)) (λ none e. none e.0 e.1) (Decides-not (answered r) (answered_shown s past r (f.shows s)))

  -- no stop: the marks of the stopped stations stay
  stops_stay : (past : List Event) (y : Event) (t : ℕ) (b : Bool) → (stop t gives Ok stopped) ≢ y → Decides b (Stopped t past) → Decides b (Stopped t (more past y))
  stops_stay past y t b h = grind (arith, among_past (stop t gives Ok stopped) y past, among_more (stop t gives Ok stopped) y past)

  -- what is owed of the answer to a call
  record Follows (past : List Event) (c : Call) (p : Performed m) : Type 0 where
    judged : Judged (Yes (m.stations start) past (station_of c)) c p.answer
    in_range : (s k : ℕ) (i : Operation) (o : Option Outcome) → (step s k gives Ok (stepped i o)) ≡ (c gives p.answer) → i.register < m.registers start
    next : Followed (more past (c gives p.answer)) p.next

  -- one more event
  module _ (past : List Event) (x : TrialState m.State) (f : Followed past x) where
    -- of a call that left the object alone
    unmoved : (y : Event) → ((t : ℕ) → Quiet t y) → (g : ℕ → Bool) → ((t : ℕ) → Decides (g t) (Stopped t (more past y))) → Followed (more past y) (record { object = x.object; stopped = g })
    unmoved y q g h = record {
      reached = f.reached;
      stations = f.stations;
      limit = f.limit;
      registers = f.registers;
      ratifying = f.ratifying;
      shows = λ t. let r = m.record_of x.object t in shows_more t past y r r (quiet_turns t r y (q t)) (f.shows t);
      stops = h;
    }

    -- of a call that moved the object at s
    moved : (y : Event) (s : ℕ) (z : m.State) → d.Reached z → Beside m s x.object z → Turns s (m.record_of x.object s) y (m.record_of z s) → ((t : ℕ) → t ≢ s → Quiet t y) → ((t : ℕ) → (stop t gives Ok stopped) ≢ y) →
        Followed (more past y) (record { object = z; stopped = x.stopped })
    moved y s z 𝓏 b turns q h = record {
      reached = 𝓏;
      stations = b.stations ∙ f.stations;
      limit = b.limit ∙ f.limit;
      registers = b.registers ∙ f.registers;
      ratifying = b.ratifying ∙ f.ratifying;
      shows = λ t. elim (cases_eq t s) [
        | inl e ↦ rw e (shows_more s past y (m.record_of x.object s) (m.record_of z s) turns (f.shows s))
        | inr e ↦ let r = m.record_of x.object t in rw (b.others t e) (shows_more t past y r r (quiet_turns t r y (q t e)) (f.shows t))
      ];
      stops = λ t. stops_stay past y t (x.stopped t) (h t) (f.stops t);
    }

    accepts : (c : Call) → Small c → AllYes (Yes (m.stations start) past (station_of c)) (questions c) → Follows past c (accepted m x c)
    accepts (enter s v) small h = record {
      judged = inr (h, refl);
      in_range = λ t k i o e. apart (cc);
      next = moved (enter s v gives Ok entered) s (m.enter x.object s v) (d.enter_reached x.object s v f.reached g) (d.enter_beside x.object s v f.reached g) (rw (g.away, d.enter_own x.object s v f.reached g) (entered_turns s v)) (λ t e. entered_quiet t s v e) (λ t e. apart (cc));
    }
      where
        g : Enters m x.object s v
        g = record { below = rw f.stations h.0; away = away_shown s past (m.record_of x.object s) (f.shows s) h.1.1.0; small = small }
    accepts (step s c) small h = record {
      judged = inr (h, (r.operation, r.outcome, refl));
      in_range = λ t k i o e. let z : i ≡ r.operation = cc in rw (z, ← f.registers) (d.step_below x.object s c w.0 w.1 f.reached g);
      next = moved (step s c gives Ok (stepped r.operation r.outcome)) s r.next (d.step_reached x.object s c w.0 w.1 f.reached g) (d.step_beside x.object s c w.0 w.1 f.reached g)
          (rw (w.2, d.step_own x.object s c w.0 w.1 f.reached g) (stepped_turns s c w.0 w.1 r.operation r.outcome)) (λ t e. stepped_quiet t s c r.operation r.outcome e) (λ t e. apart (cc));
    }
      where
        r : Step m.State
        r = m.step x.object s c

        w : (v : ℕ) × (k : ℕ) × (m.record_of x.object s ≡ UnderWay v k)
        w = under_way_shown s past (m.record_of x.object s) (f.shows s) h.1.1.0 h.1.1.1.0

        g : Steps m x.object s w.0 w.1
        g = record { below = rw f.stations h.0; under_way = w.2 }
    accepts (stop s) small h = record {
      judged = inr (h, refl);
      in_range = λ t k i o e. apart (cc);
      next = unmoved (stop s gives Ok stopped) (λ t. stopped_quiet t s) (λ t. if eqb t s then true else x.stopped t) stops;
    }
      where
        stops : (t : ℕ) → Decides (if eqb t s then true else x.stopped t) (Stopped t (more past (stop s gives Ok stopped)))
        stops t = grind (arith, nat_tests, among_last (stop t gives Ok stopped) (stop s gives Ok stopped) past, stops_stay past (stop s gives Ok stopped) t (x.stopped t), f.stops t)

    follows : (c : Call) → Small c → Follows past c (perform m x c)
    follows c small = rw (by_questions m x c) (go (first_no (says m x (station_of c)) (questions c)) (verdict (says m x (station_of c)) (Yes (m.stations start) past (station_of c)) (agrees past x f (station_of c)) (questions c)))
      where
        go : (o : Option Refusal) → Verdict (Yes (m.stations start) past (station_of c)) (questions c) o → Follows past c (unless m x o (accepted m x c))
        go None h = accepts c small h
        go (Some k) h = record {
          judged = inl (k, refl, h);
          in_range = λ t n i o e. apart (cc);
          next = unmoved (c gives Err k) (λ t. refused_quiet t c k) x.stopped (λ t. stops_stay past (c gives Err k) t (x.stopped t) (λ e. apart (cc)) (f.stops t));
        }

  -- THE RUN: at its end, and wherever an event comes in it
  ends : (past : List Event) (x : TrialState m.State) → Followed past x → (calls : List Call) → AllSmall calls → Followed (past ++ happened m x calls) (last m x calls)
  ends past x f [] small = rw append-nil f
  ends past x f (c ∷ cs) small =
      let p = perform m x c in
      rw append_assoc at (ends (more past (c gives p.answer)) p.next (follows past x f c small.0).next cs small.1)

  comes : (past : List Event) (x : TrialState m.State) → Followed past x → (calls : List Call) → AllSmall calls → (before after : List Event) (c : Call) (a : Answer) → happened m x calls ≡ before ++ ((c gives a) ∷ after) →
      (z : TrialState m.State) × Follows (past ++ before) c (record { answer = a; next = z })
  comes past x f [] small [] after c a h = apart (cc)
  comes past x f [] small (b ∷ bs) after c a h = apart (cc)
  comes past x f (k ∷ ks) small [] after c a h =
      let p = perform m x k in
      let call : c ≡ k = cc in
      let answer : a ≡ p.answer = cc in
      (p.next, rw (append-nil past, call, answer) (follows past x f k small.0))
  comes past x f (k ∷ ks) small (b ∷ bs) after c a h =
      let p = perform m x k in
      let first : b ≡ (k gives p.answer) = cc in
      let rest : happened m p.next ks ≡ bs ++ ((c gives a) ∷ after) = cc in
      rw first (rw append_assoc at (comes (more past (k gives p.answer)) p.next (follows past x f k small.0).next ks small.1 bs after c a rest))

  -- what the laws of the object say at a point of the run
  module _ (past : List Event) (x : TrialState m.State) (f : Followed past x) where
    laws : Laws (m.limit start) (m.ratifying start) (m.record_of x.object)
    laws = rw (f.limit, f.ratifying) at (d.laws x.object f.reached)

    proposed : (s v : ℕ) → Proposes (m.record_of x.object s) v → Entered s v past
    proposed s v = ((f.shows s).proposal v).0

    ended : (s : ℕ) (o : Outcome) → Brought s o past → Ends (m.record_of x.object s) o
    ended s o = ((f.shows s).outcome o).1

  -- right after a step that brought the outcome o
  module _ (past : List Event) (s c : ℕ) (i : Operation) (o : Outcome) (x : TrialState m.State) (f : Followed (more past (step s c gives Ok (stepped i (Some o)))) x) where
    y : Event
    y = step s c gives Ok (stepped i (Some o))

    entered_before : (t w : ℕ) → Proposes (m.record_of x.object t) w → Entered t w past
    unfolding y
    entered_before t w h = ⊎_elim (λ p. p) (λ e. apart (cc)) (among_more (enter t w gives Ok entered) y past (proposed (more past y) x f t w h))

    now_ended : Ends (m.record_of x.object s) o
    unfolding y
    now_ended = ended (more past y) x f s o (c, i, among_last y y past refl)

    valid_here : (t : ℕ) × Entered t (mark o) past
    unfolding y
    valid_here = let (t, h) = (laws (more past y) x f).valid s o now_ended in (t, entered_before t (mark o) h)

    ratifies_here : m.ratifying start ≡ true → (v : ℕ) → ((t w : ℕ) → Entered t w past → w ≡ v) → o ≡ Commit v
    unfolding y
    ratifies_here r v same =
        let commits = (laws (more past y) x f).ratifies r v (λ t w h. same t w (entered_before t w h)) s o now_ended in
        let marked = same valid_here.0 (mark o) valid_here.1 in
        cc

  -- THE LAW
  module _ (reached : d.Reached start) (away : (s : ℕ) → m.record_of start s ≡ Away) (calls : List Call) (small : AllSmall calls) where
    at_start : Followed [] (begun start)
    at_start = record {
      reached = reached;
      stations = refl;
      limit = refl;
      registers = refl;
      ratifying = refl;
      shows = λ s. rw (away s) (record { proposal = λ v. (λ p. p, λ p. p); count = refl; outcome = λ o. (absurd, λ b. absurd b.2) });
      stops = λ s. (λ e. absurd (false≢true e), absurd);
    }

    abbrev events : List Event
    events = happened m (begun start) calls

    abbrev final : TrialState m.State
    final = last m (begun start) calls

    at_end : Followed events final
    at_end = ends [] (begun start) at_start calls small

    where_comes : (before : List Event) (c : Call) (a : Answer) → Comes before (c gives a) events → (z : TrialState m.State) × Follows before c (record { answer = a; next = z })
    where_comes before c a h = comes [] (begun start) at_start calls small before h.0 c a h.1

    pub lawful : Lawful (m.stations start) (m.limit start) (m.ratifying start) events (m.record_of final.object)
    lawful = record {
      judged = λ before c a h. (where_comes before c a h).1.judged;
      valid = λ before s c i o h.
          let (z, f) = where_comes before (step s c) (Ok (stepped i (Some o))) h in
          valid_here before s c i o z f.next;
      coherent = λ s t u o b e. (laws events final at_end).coherent s t u o (ended events final at_end s (Commit u) b) (ended events final at_end t o e);
      bounded = λ s. rw (← (at_end.shows s).count) (within (m.limit start) (m.ratifying start) (m.record_of final.object) (laws events final at_end) s (m.record_of final.object s) refl);
      in_time = λ s v h.
          let r = m.record_of final.object s in
          let entered = ((at_end.shows s).proposal v).1 h in
          rw (← (at_end.shows s).count)
          (⊎_elim inl (λ e. inr (e.0, ((at_end.shows s).outcome e.0).0 e.1))
          (going_or_ended (m.limit start) (m.ratifying start) (m.record_of final.object) (laws events final at_end) s r refl v entered));
      ratifies = λ r before s c i o h.
          let (z, f) = where_comes before (step s c) (Ok (stepped i (Some o))) h in
          ratifies_here before s c i o z f.next r;
      never = λ r s u h. let z = (laws events final at_end).never r s (Commit u) (ended events final at_end s (Commit u) h) in apart (cc);
      shows = at_end.shows;
    }

    pub in_range : InRange (m.registers start) events
    in_range s c i o h =
        let (before, after, e) = among_comes (step s c gives Ok (stepped i o)) events h in
        (where_comes before (step s c) (Ok (stepped i o)) (after, e)).1.in_range s c i o refl
