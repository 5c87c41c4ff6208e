use Rattle.std.proofs.Common.{◌≡◌, ◌≤◌, length, vec_items, vec_len, vec_capacity}
use Rattle.deciding.specs.Refusable.{refusable_deciding}
use Rattle.trial.specs.Trials.{Stays, tried, whole}
use Rattle.trial.proofs.Rehearsing.{So}
use Rattle.trial.proofs.rehearsal.rehearse.Given as goal

abbrev pub invariant-loop-call : goal.invariant-loop-call
invariant-loop-call g l =
    let D = g.D.DecidingObject in
    let start = l.initial.trial in
    (vec_len l.answers ≡ l.call-index) × (length l.calls ≤ vec_capacity l.answers) ×
    So (whole D) (refusable_deciding D.machine D.deciding) (tried D start) l.calls l.call-index (vec_items l.answers) (tried D l.trial) ×
    Stays D start l.trial
