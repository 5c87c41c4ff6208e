-- The law of listings, of every run: line by line, by what its command was judged to be.
use Rattle.std.proofs.Common.{◌≡◌, ℕ, zero, suc, ◌+◌, ◌<◌, ◌≤◌, true, false, ltb, leb, List, [], ◌∷◌, ◌++◌, length, get_or, Some, None, Ok, Err, Option, Result, sym, refl, ap, ◌∙◌, subst, arith}
use Rattle.std.proofs.lemmas.List.{get_or-take}
use Rattle.std.proofs.lemmas.Bool.Decides.{nat_tests}
use Rattle.std.proofs.lemmas.Bool.{cond_both, true≢false}
use Rattle.refusal.specs.declared.Refusal.{Refusal}
use Rattle.refusal.specs.declared.Refusal.TheVariants.{ListingFull, NoPile}
use Rattle.deciding.specs.Laws.{marks}
use Rattle.deciding.specs.Machine.{Machine}
use Rattle.deciding.specs.Refusable.{refusable, refusable_deciding, with_refusal}
use Rattle.deciding.specs.Sizes.{one_to_sixteen}
use Rattle.listing.specs.declared.line.Line.{Line}
use Rattle.listing.specs.declared.line.Line.TheVariants as line
use Rattle.schedule.specs.declared.pile.Pile.{Pile}
use Rattle.schedule.proofs.Numbers.{numbered_names}
use Rattle.schedule.specs.Piles.{pile_numbered, Names}
use Rattle.schedule.specs.Script as script
use Rattle.schedule.specs.Script.{Kind, Item, command, broken, operands, with_operands, item, tail, items, script}
use Rattle.trial.specs.declared.call.Call.{Call}
use Rattle.trial.specs.Answers.{Answer}
use Rattle.trial.specs.Events.{◌gives◌, events_of, Among}
use Rattle.trial.specs.Perform.{TrialState, Small, AllSmall, perform, trial_refusal, answers, last}
use Rattle.trial.specs.Trials.{new_trial}
use Rattle.trial.proofs.LawOfRuns.{in_range}
use Rattle.trial.proofs.Makings.{lawful_trial, trial_reached, trial_away}
use Rattle.rehearsal.specs.declared.verdict.Verdict.{Verdict}
use Rattle.rehearsal.specs.declared.verdict.Verdict.TheVariants.{Ends, Halts, Refuses, Begins, Asks}
use Rattle.rehearsal.specs.Lines.{answer_line}
use Rattle.rehearsal.specs.Listings.{Listed, ◌got◌, beside, call_of, TurnsDown, Tells, is_pile, WithoutPile, AsksFor, TurnedAway, OneTrial, LawfulListing, LawfulRun}
use Rattle.rehearsal.specs.Piles.{Built, built}
use Rattle.rehearsal.specs.Responders.{Heard, Responder, in_state, refuses_all, no_trial, performs}
use Rattle.rehearsal.specs.Runs.{start_verdict, item_verdict, verdict, done, Report, reported, report, run_of}
use Rattle.rehearsal.proofs.PilesMade.{ReadyPile, piles_ready}

clash : {A : Type 0} → ◌≡◌ {A = ℕ} 0 1 → A
clash e = absurd (omega arith)

-- WHAT A COMMAND IS JUDGED TO BE

abbrev JudgedAs : Item → Verdict → Type 0
JudgedAs x (Ends q) = q ≡ Some ListingFull
JudgedAs x (Halts q) = (call_of x ≡ None) × TurnsDown x q
JudgedAs x (Refuses q) = (call_of x ≡ None) × TurnsDown x q
JudgedAs x (Begins u) = AsksFor x u.pile u.stations × (one_to_sixteen u.stations ≡ true) × (ltb u.leader u.stations ≡ true)
JudgedAs x (Asks c) = call_of x ≡ Some c

start_judged : (ops : List ℕ) (r : Result Pile Refusal) → Names (get_or ops 0 0) r → JudgedAs (command script.new ops) (start_verdict r (get_or ops 1 0) (get_or ops 2 0))
start_judged ops (Err e) h = (refl, subst (λ (q : Refusal). TurnsDown (command script.new ops) q) (sym h.1) h.0)
start_judged ops (Ok p) h =
    let n = get_or ops 1 0 in
    let leader = get_or ops 2 0 in
    let J : Verdict → Type 0 = JudgedAs (command script.new ops) in
    cond_both (one_to_sixteen n) _ _ J
    (λ counted. cond_both (ltb leader n) _ _ J (λ led. grind (arith, nat_tests))
    (λ none. let why : (1 ≤ n) × (n ≤ 16) × (n ≤ leader) = grind (arith, nat_tests) in (refl, (p, h, why.0, why.1, why.2))))
    (λ none. (refl, (p, h, (grind (arith, nat_tests)))))

item_judged : (x : Item) → JudgedAs x (item_verdict x)
item_judged x = grind (arith, λ (ops : List ℕ). start_judged ops (pile_numbered (get_or ops 0 0)) (numbered_names (get_or ops 0 0)))

judged : (room : ℕ) (x : Item) → JudgedAs x (verdict room x)
judged room x = grind (arith, item_judged x)

-- THE MARKS of a schedule are bytes

abbrev SmallOf : Option Call → Type 0
SmallOf None = Unit {0}
SmallOf (Some c) = Small c

abbrev SmallItems : List Item → Type 0
SmallItems [] = Unit {0}
SmallItems (x ∷ xs) = SmallOf (call_of x) × SmallItems xs

abbrev Bytes : List ℕ → Type 0
Bytes bs = (i : ℕ) → get_or bs i 0 < marks

item_small : (b : ℕ) (bs : List ℕ) → Bytes bs → SmallOf (call_of (item b bs))
item_small b bs h = grind (arith, nat_tests, h 1, get_or-take)

items_small : (n : ℕ) (bs : List ℕ) → Bytes bs → SmallItems (items n bs)
items_small n [] h = tt
items_small zero (b ∷ bs) h = (item_small b bs (λ i. h (suc i)), items_small (tail (item b bs)) bs (λ i. h (suc i)))
items_small (suc n) (b ∷ bs) h = items_small n bs (λ i. h (suc i))

-- LISTS of commands with their lines

later : {x y : Listed} {xs ys : List Listed} → ◌≡◌ {A = List Listed} (x ∷ xs) (y ∷ ys) → xs ≡ ys
later e = cc

nil_more : {A : Type 0} (xs : List Listed) (y : Listed) (ys : List Listed) → ◌≡◌ {A = List Listed} [] (xs ++ (y ∷ ys)) → A
nil_more [] y ys e = clash (cc)
nil_more (x ∷ xs) y ys e = clash (cc)

answer_no_pile : (c : Call) (a : Answer) → is_pile (answer_line c a) ≡ false
answer_no_pile c a = grind arith

-- WITHOUT A NEW PILE the calls are put to one responder, one after another
module _ {S : Type 0} (f : S → Call → Heard S) where
  abbrev heard : S → List Call → List Answer
  heard x [] = []
  heard x (c ∷ cs) = (f x c).answer ∷ heard (f x c).next cs

  record Stretch (x : S) (part : List Listed) : Type 0 where
    calls : List Call
    small : AllSmall calls
    told : Tells part (events_of calls (heard x calls))

  no_calls : (x : S) (part after : List Listed) → [] ≡ part ++ after → Stretch x part
  no_calls x [] after e = record { calls = []; small = tt; told = refl }
  no_calls x (p ∷ ps) after e = clash (cc)

  no_call : (x : S) (i y : Item) (k : Line) (q : Refusal) (ps : List Listed) → y ≡ i → k ≡ line.Refused q → (call_of i ≡ None) × TurnsDown i q → Stretch x ps → Stretch x ((y got k) ∷ ps)
  no_call x i y k q ps is shown down s = record { calls = s.calls; small = s.small; told = rw (is, down.0) (q, shown, down.1, s.told) }

  one_call : (x : S) (y : Item) (k : Line) (ps : List Listed) (c : Call) → call_of y ≡ Some c → Small c → k ≡ answer_line c (f x c).answer → Stretch (f x c).next ps → Stretch x ((y got k) ∷ ps)
  one_call x y k ps c is small line s = record {
    calls = c ∷ s.calls;
    small = (small, s.small);
    told = rw is ((f x c).answer, events_of s.calls (heard (f x c).next s.calls), line, refl, s.told);
  }

  abbrev Stretches : List Item → Type 0
  Stretches xs = (room : ℕ) (x : S) (part after : List Listed) → beside (report xs room (in_state f x)).lines xs ≡ part ++ after → WithoutPile part → Stretch x part

  one_line : (i : Item) (is : List Item) → SmallOf (call_of i) → Stretches is → (room : ℕ) (x : S) (y : Item) (k : Line) (ps after : List Listed) (v : Verdict) → JudgedAs i v →
      beside (reported (done v (in_state f x)) (1 + tail i) room (report is)).lines (i ∷ is) ≡ (y got k) ∷ (ps ++ after) → WithoutPile ((y got k) ∷ ps) → Stretch x ((y got k) ∷ ps)
  one_line i is small rest room x y k ps after (Ends q) j e none = clash (cc)
  one_line i is small rest room x y k ps after (Halts q) j e none = no_call x i y k q ps (cc) (cc) j (no_calls x ps after (later e))
  one_line i is small rest room x y k ps after (Refuses q) j e none = no_call x i y k q ps (cc) (cc) j (rest _ x ps after (later e) none.1)
  one_line i is small rest room x y k ps after (Begins u) j e none = absurd (grind arith)
  one_line i is small rest room x y k ps after (Asks c) j e none =
      let is_i : y ≡ i = cc in
      one_call x y k ps c (rw is_i j) (rw j at small) (cc) (rest _ (f x c).next ps after (later e) none.1)

  stretch : (xs : List Item) → SmallItems xs → Stretches xs
  stretch xs small room x [] after e none = record { calls = []; small = tt; told = refl }
  stretch [] small room x (p ∷ ps) after e none = clash (cc)
  stretch (i ∷ is) small room x ((y got k) ∷ ps) after e none = one_line i is small.0 (stretch is small.1) room x y k ps after (verdict room i) (judged room i) e none

-- BEFORE THE FIRST PILE
all_refused : (calls : List Call) (c : Call) (a : Answer) → Among (c gives a) (events_of calls (heard refuses_all tt calls)) → a ≡ Err NoPile
all_refused [] c a h = absurd h
all_refused (k ∷ ks) c a h = grind (arith, all_refused ks c a)

turned_away : (part : List Listed) → Stretch refuses_all tt part → TurnedAway part
turned_away part s = record { events = events_of s.calls (heard refuses_all tt s.calls); told = s.told; refused = all_refused s.calls }

-- A TRIAL
heard_answers : (m : Machine) (x : TrialState m.State) (calls : List Call) → heard (performs m) x calls ≡ answers m x calls
heard_answers m x [] = refl
heard_answers m x (c ∷ cs) = simp (heard_answers m (perform m x c).next cs)

module _ (d : Built) (n : ℕ) (ready : ReadyPile n d) where
  abbrev m : Machine
  m = refusable d.machine

  abbrev x : TrialState m.State
  x = new_trial d.machine d.start

  stations : m.stations x.object ≡ n
  stations = rw ready.made ready.stations

  ratifying : m.ratifying x.object ≡ true
  ratifying = rw ready.made ready.ratifying

  one_trial : (part : List Listed) → Stretch (performs m) x part → OneTrial (m.stations x.object) (m.limit x.object) (m.registers x.object) part
  one_trial part s =
      let calls = s.calls in
      let all = events_of calls (answers m x calls) in
      let refused = trial_refusal d.machine d.start in
      record {
        events = all;
        told = rw (heard_answers m x calls) at s.told;
        record_of = m.record_of (last m x calls).object;
        law = rw ratifying at (lawful_trial d.machine d.deciding d.start d.reached calls s.small);
        range = in_range m (refusable_deciding d.machine d.deciding) (with_refusal d.start refused)
            (trial_reached d.machine d.deciding d.start d.reached refused refl) (trial_away d.machine d.deciding d.start d.reached refused refl) calls s.small;
      }

  -- the line of its pile shows its numbers
  pile_begins : (i y : Item) (q p : Pile) (k limit registers : ℕ) (part : List Listed) → y ≡ i → line.Pile p k limit registers ≡ line.Pile q (m.stations x.object) (m.limit x.object) (m.registers x.object) →
      AsksFor i q n → OneTrial (m.stations x.object) (m.limit x.object) (m.registers x.object) part → AsksFor y p k × OneTrial k limit registers part
  pile_begins i y q p k limit registers part item shown asked trial =
      let pile : p ≡ q = cc in
      let count : k ≡ m.stations x.object = cc in
      let short : limit ≡ m.limit x.object = cc in
      let narrow : registers ≡ m.registers x.object = cc in
      (rw (item, pile, count, stations) asked, rw (count, short, narrow) trial)

-- FROM A PILE'S LINE ON
abbrev Trials : List Item → Type 1
Trials xs = (room : ℕ) (st : Responder) (before trial after : List Listed) (y : Item) (p : Pile) (n limit registers : ℕ) →
    beside (report xs room st).lines xs ≡ before ++ ((y got line.Pile p n limit registers) ∷ (trial ++ after)) → WithoutPile trial → AsksFor y p n × OneTrial n limit registers trial

-- the next line is that of the pile
this_line : (i : Item) (is : List Item) → SmallItems is → (room : ℕ) (st : Responder) (trial after : List Listed) (y : Item) (p : Pile) (n limit registers : ℕ) (v : Verdict) → JudgedAs i v →
    beside (reported (done v st) (1 + tail i) room (report is)).lines (i ∷ is) ≡ (y got line.Pile p n limit registers) ∷ (trial ++ after) → WithoutPile trial →
    AsksFor y p n × OneTrial n limit registers trial
this_line i is small room st trial after y p n limit registers (Ends q) j e none = clash (cc)
this_line i is small room st trial after y p n limit registers (Halts q) j e none = clash (cc)
this_line i is small room st trial after y p n limit registers (Refuses q) j e none = clash (cc)
this_line i is small room st trial after y p n limit registers (Asks c) j e none =
    let a = (st.answers st.state c).answer in
    let shown : line.Pile p n limit registers ≡ answer_line c a = cc in
    absurd (true≢false (ap is_pile shown ∙ answer_no_pile c a))
this_line i is small room st trial after y p n limit registers (Begins u) j e none =
    let d = built u.pile u.stations u.leader in
    let ready = piles_ready u.pile u.stations u.leader j.1 j.2 in
    let s = stretch (performs (refusable d.machine)) is small _ (new_trial d.machine d.start) trial after (later e) none in
    pile_begins d u.stations ready i y u.pile p n limit registers trial (cc) (cc) j.0 (one_trial d u.stations ready trial s)

-- it is a later one
later_line : (i : Item) (is : List Item) → Trials is → (room : ℕ) (st : Responder) (b : Listed) (before trial after : List Listed) (y : Item) (p : Pile) (n limit registers : ℕ) (v : Verdict) →
    beside (reported (done v st) (1 + tail i) room (report is)).lines (i ∷ is) ≡ b ∷ (before ++ ((y got line.Pile p n limit registers) ∷ (trial ++ after))) → WithoutPile trial →
    AsksFor y p n × OneTrial n limit registers trial
later_line i is rest room st b before trial after y p n limit registers (Ends q) e none = clash (cc)
later_line i is rest room st b before trial after y p n limit registers (Halts q) e none = nil_more before _ _ (later e)
later_line i is rest room st b before trial after y p n limit registers (Refuses q) e none = rest _ _ before trial after y p n limit registers (later e) none
later_line i is rest room st b before trial after y p n limit registers (Begins u) e none = rest _ _ before trial after y p n limit registers (later e) none
later_line i is rest room st b before trial after y p n limit registers (Asks c) e none = rest _ _ before trial after y p n limit registers (later e) none

trials : (xs : List Item) → SmallItems xs → Trials xs
trials [] small room st before trial after y p n limit registers e none = nil_more before _ _ e
trials (i ∷ is) small room st [] trial after y p n limit registers e none = this_line i is small.1 room st trial after y p n limit registers (verdict room i) (judged room i) e none
trials (i ∷ is) small room st (b ∷ before) trial after y p n limit registers e none =
    later_line i is (trials is small.1) room st b before trial after y p n limit registers (verdict room i) e none

-- HOW MANY LINES
record Counted (xs : List Item) (r : Report) : Type 0 where
  at_most : length r.lines ≤ length xs
  each : r.ended ≡ None → length r.lines ≡ length xs

done_counted : (i : Item) (is : List Item) → ((room : ℕ) (st : Responder) → Counted is (report is room st)) → (room : ℕ) (st : Responder) (v : Verdict) → JudgedAs i v →
    Counted (i ∷ is) (reported (done v st) (1 + tail i) room (report is))
done_counted i is rest room st v j = grind (arith, rest)

counted : (xs : List Item) (room : ℕ) (st : Responder) → Counted xs (report xs room st)
counted [] room st = record { at_most = omega arith; each = λ e. refl }
counted (i ∷ is) room st = done_counted i is (counted is) room st (verdict room i) (judged room i)

-- THE RUN
nothing_listed : LawfulListing []
nothing_listed = record {
  first = λ before after e none. turned_away before (no_calls refuses_all tt before after e);
  trials = λ before trial after x p n limit registers e none. nil_more before _ _ e;
}

pub run_lawful : (bs : List ℕ) (room : ℕ) → ((i : ℕ) → get_or bs i 0 < 256) → LawfulRun bs (run_of bs room)
run_lawful bs room small =
    let xs = script bs in
    let bytes = items_small 0 bs small in
    let count = counted xs room no_trial in
    cond_both (leb (length bs) 4096) _ _ (λ (r : Report). LawfulRun bs r)
    (λ _. record {
      listing = record {
        first = λ before after e none. turned_away before (stretch refuses_all xs bytes room tt before after e none);
        trials = trials xs bytes room no_trial;
      };
      at_most = count.at_most;
      each = count.each;
    })
    (λ _. record { listing = nothing_listed; at_most = omega arith; each = λ e. clash cc })
