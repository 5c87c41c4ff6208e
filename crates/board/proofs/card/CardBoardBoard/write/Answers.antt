use Rattle.std.proofs.Common.{rules, arith}
use Rattle.board.proofs.CardLists.{length-contents, contents_set}
use Rattle.board.proofs.card.CardBoardBoard.write.Goals as goal

pub returns-in_err-at-clause-after : goal.returns-in_err-at-clause-after
returns-in_err-at-clause-after c = search (rules, length-contents)

pub returns-clause-after : goal.returns-clause-after
returns-clause-after c = grind (arith, length-contents, contents_set)
