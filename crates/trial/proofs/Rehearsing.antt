-- Calls put to a trial one after another: what a turn of the loop adds, and what the law of runs says at the end.
use Rattle.std.proofs.Common.{◌≡◌, ℕ, ◌+◌, ◌<◌, ◌≤◌, false, List, [], ◌∷◌, ◌++◌, length, get_or, take, sym, refl, ap, ◌∙◌, subst}
use Rattle.std.proofs.lemmas.List.{take_more, take_all}
use Rattle.deciding.specs.declared.record.Record.TheVariants.{Away}
use Rattle.deciding.specs.Machine.{Machine}
use Rattle.deciding.specs.Deciding.{Deciding}
use Rattle.trial.specs.declared.call.Call.{Call}
use Rattle.trial.specs.Answers.{Answer}
use Rattle.trial.specs.Events.{events_of}
use Rattle.trial.specs.Law.{Lawful, InRange}
use Rattle.trial.specs.Perform.{TrialState, begun, Small, AllSmall, perform, Performs, answers, last}
use Rattle.trial.proofs.LawOfRuns.{lawful, in_range}
use Rattle.trial.proofs.Performing.{last_reached}

-- one call more
module _ (m : Machine) where
  answers_more : (x : TrialState m.State) (cs : List Call) (c : Call) → answers m x (cs ++ (c ∷ [])) ≡ answers m x cs ++ ((perform m (last m x cs) c).answer ∷ [])
  answers_more x [] c = refl
  answers_more x (k ∷ ks) c = simp (answers_more (perform m x k).next ks c)

  last_more : (x : TrialState m.State) (cs : List Call) (c : Call) → last m x (cs ++ (c ∷ [])) ≡ (perform m (last m x cs) c).next
  last_more x [] c = refl
  last_more x (k ∷ ks) c = last_more (perform m x k).next ks c

  length-answers : (x : TrialState m.State) (cs : List Call) → length (answers m x cs) ≡ length cs
  length-answers x [] = refl
  length-answers x (k ∷ ks) = simp (length-answers (perform m x k).next ks)

small_more : (cs : List Call) (c : Call) → AllSmall cs → Small c → AllSmall (cs ++ (c ∷ []))
small_more [] c h k = (k, tt)
small_more (b ∷ bs) c h k = (h.0, small_more bs c h.1 k)

module _ (m : Machine) (d : Deciding m) where
  -- THE LOOP, where i calls were put to the trial x, with these answers, and it came to y
  module _ (x : TrialState m.State) (calls : List Call) where
    pub record So (i : ℕ) (given : List Answer) (y : TrialState m.State) : Type 0 where
      pub small : AllSmall (take i calls)
      pub answers : given ≡ answers m x (take i calls)
      pub last : y ≡ last m x (take i calls)

    pub so_none : So 0 [] x
    so_none = record { small = tt; answers = refl; last = refl }

    pub so_more : (i : ℕ) (given : List Answer) (y : TrialState m.State) (c : Call) (a : Answer) (z : TrialState m.State) → i < length calls → So i given y →
        Performs m y (get_or calls i c) a z → So (i + 1) (given ++ (a ∷ [])) z
    so_more i given y c a z h so p =
        let k = get_or calls i c in
        let more = take_more calls i c h in
        record {
          small = rw more (small_more (take i calls) k so.small p.small);
          answers = cc (answers_more m x (take i calls) k);
          last = cc (last_more m x (take i calls) k);
        }

    -- and y is reached if x is
    pub so_reached : (i : ℕ) (given : List Answer) (y : TrialState m.State) → So i given y → d.Reached x.object → d.Reached y.object
    so_reached i given y so r = rw so.last (last_reached m d x r (take i calls) so.small)

  -- THE LAW, of a trial that begins with all records away and nobody stopped
  pub record Obeys (x : TrialState m.State) (calls : List Call) (given : List Answer) (y : TrialState m.State) : Type 0 where
    pub law : Lawful (m.stations x.object) (m.limit x.object) (m.ratifying x.object) (events_of calls given) (m.record_of y.object)
    pub range : InRange (m.registers x.object) (events_of calls given)

  pub obeys : (x : TrialState m.State) → d.Reached x.object → ((s : ℕ) → m.record_of x.object s ≡ Away) → ((s : ℕ) → x.stopped s ≡ false) → (calls : List Call) → AllSmall calls →
      Obeys x calls (answers m x calls) (last m x calls)
  obeys x reached away none calls small =
      let start : begun x.object ≡ x = λ i. record { object = x.object; stopped = λ s. sym (none s) i } in
      subst (λ (t : TrialState m.State). Obeys t calls (answers m t calls) (last m t calls)) start
      (record { law = lawful m d x.object reached away calls small; range = in_range m d x.object reached away calls small })

  -- THE END of the loop
  module _ (x : TrialState m.State) (calls : List Call) (i : ℕ) (given : List Answer) (y : TrialState m.State) (all : length calls ≤ i) (so : So x calls i given y) where
    whole_list : take i calls ≡ calls
    whole_list = take_all i calls all

    pub given_small : AllSmall calls
    given_small = subst AllSmall whole_list so.small

    pub given_answers : given ≡ answers m x calls
    given_answers = so.answers ∙ ap (answers m x) whole_list

    pub given_last : y ≡ last m x calls
    given_last = so.last ∙ ap (last m x) whole_list

    pub given_each : length given ≡ length calls
    given_each = ap length given_answers ∙ length-answers m x calls

    pub given_obeys : d.Reached x.object → ((s : ℕ) → m.record_of x.object s ≡ Away) → ((s : ℕ) → x.stopped s ≡ false) → Obeys x calls given y
    given_obeys reached away none = rw (given_answers, given_last) (obeys x reached away none calls given_small)
