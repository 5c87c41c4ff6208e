use Rattle.std.proofs.Common.{vec_items, refl, ◌∙◌, arith}
use Rattle.deciding.specs.Refusable.{refusable_deciding}
use Rattle.trial.specs.Trials.{tried, whole}
use Rattle.trial.proofs.Rehearsing.{so_none, so_more, given_small, given_answers, given_last, given_each, given_obeys}
use Rattle.trial.proofs.Untouched.{held_reached, held_obeys}
use Rattle.trial.proofs.rehearsal.rehearse.Goals as goal

pub loop-call-init : goal.loop-call-init
loop-call-init g c =
    let D = g.D.DecidingObject in
    let new = c.in_ok-answers.ensures in (
      new.len,
      new.capacity,
      rw new.items
          (so_none (whole D) (refusable_deciding D.machine D.deciding) (tried D c.args.trial.now) c.args.calls.now),
      λ r is. (is, refl),
    )

pub loop-call-preserved : goal.loop-call-preserved
loop-call-preserved g c =
    let D = g.D.DecidingObject in
    let d = refusable_deciding D.machine D.deciding in
    let inv = c.loop-call.invariant in
    let pushed = c.push_reserved.ensures in (
      omega arith,
      omega arith,
      rw pushed.items
          (so_more (whole D) d (tried D c.args.trial.now) c.args.calls.now c.loop-call.call-index (vec_items c.loop-call.answers) (tried D c.loop-call.trial) _
          c.perform.result (tried D c.perform.new.self) c.loop-call-test.true inv.2 c.perform.ensures.0),
      λ r is. let held = inv.3 r is in let now = c.perform.ensures.1 r held.0 in (now.0, now.1 ∙ held.1),
    )

pub returns : goal.returns
returns g c =
    let D = g.D.DecidingObject in
    let m = whole D in
    let d = refusable_deciding D.machine D.deciding in
    let x = tried D c.args.trial.now in
    let calls = c.args.calls.now in
    let i = c.loop-call.call-index in
    let given = vec_items c.loop-call.answers in
    let y = tried D c.loop-call.trial in
    let all = c.loop-call-test.false in
    record {
      runs = let so = c.loop-call.invariant.2 in record { answers = given_answers m d x calls i given y all so; last = given_last m d x calls i given y all so; stays = c.loop-call.invariant.3 };
      law = λ begun.
          let so = c.loop-call.invariant.2 in
          let obeys = given_obeys m d x calls i given y all so begun.reached begun.away begun.stopped in
          record { each = given_each m d x calls i given y all so; lawful = obeys.law; in_range = obeys.range };
      untouched = λ untouched.
          let so = c.loop-call.invariant.2 in
          let reached = held_reached D.machine D.deciding (D.state c.args.trial.now.pile) (g.met.D.DecidingObject.reached c.args.trial.now.pile) c.args.trial.now.refused in
          let obeys = held_obeys D.machine D.deciding x reached untouched.away untouched.stopped calls (given_small m d x calls i given y all so)
          given (given_answers m d x calls i given y all so) y (given_last m d x calls i given y all so) in
          record { each = given_each m d x calls i given y all so; lawful = obeys.law; in_range = obeys.range };
    }
