use Rattle.std.proofs.Common.{◌≡◌, ◌-◌, ◌≤◌, length}
use Rattle.rehearsal.specs.Responders.{in_state}
use Rattle.rehearsal.specs.Serving.{Stays, finishes, run_at}
use Rattle.rehearsal.proofs.serving.serve.Given as goal

-- the end that the run comes to from here is the one that it was to come to
abbrev pub invariant-loop-refusal : goal.invariant-loop-refusal
invariant-loop-refusal g l =
    let R = g.R.Responder in
    let from = run_at l.initial.reader l.initial.listing in
    let here = run_at l.reader l.listing in
    Stays from here
    × (from.reader.position ≤ here.reader.position)
    × (finishes from (in_state R.answers (R.state l.initial.responder)) ≡ finishes here (in_state R.answers (R.state l.responder)))

abbrev pub decreases-loop-refusal : goal.decreases-loop-refusal
decreases-loop-refusal g l = length l.reader.schedule.now - l.reader.position
