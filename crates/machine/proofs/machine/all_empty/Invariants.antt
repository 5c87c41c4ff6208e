use Rattle.std.proofs.Common.{◌≡◌, true}
use Rattle.machine.specs.Making.{empty_below}
use Rattle.machine.proofs.machine.all_empty.Given as goal

abbrev pub invariant-loop-register : goal.invariant-loop-register
invariant-loop-register g l = empty_below (g.B.Board.contents l.board) l.register ≡ true
