use Rattle.rehearsal.specs.Serving.{Final, Stays, Arrives, Waits, left, run_at}
use Rattle.rehearsal.proofs.serving.finish.Given as goal

abbrev pub invariant-loop-served : goal.invariant-loop-served
invariant-loop-served l =
    let from = run_at l.fn.reader l.fn.listing in
    let here = run_at l.reader l.listing in
    Stays from here
    × Waits from l.served here
    × ((f : Final) → Arrives f l.initial.served (run_at l.initial.reader l.initial.listing) → Arrives f l.served here)

abbrev pub decreases-loop-served : goal.decreases-loop-served
decreases-loop-served l = left l.served (run_at l.reader l.listing)
