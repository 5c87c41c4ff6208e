use Rattle.std.proofs.Common.{◌≡◌, true, false, eqb, get_or, sym}
use Rattle.machine.proofs.Empties.{empty_more, not_empty}
use Rattle.machine.proofs.machine.all_empty.Goals as goal

pub loop-register-preserved : goal.loop-register-preserved
loop-register-preserved g c =
    let xs = g.B.Board.contents c.args.board.now in
    let here : eqb (get_or xs c.loop-register.register 0) 0 ≡ true = cc in
    empty_more xs c.loop-register.register here c.loop-register.invariant

pub returns-then-not-is_empty : goal.returns-then-not-is_empty
returns-then-not-is_empty g c =
    let xs = g.B.Board.contents c.args.board.now in
    let here : eqb (get_or xs c.loop-register.register 0) 0 ≡ false = cc in
    sym (not_empty xs c.loop-register.register c.args.registers c.loop-register-test.true here)
