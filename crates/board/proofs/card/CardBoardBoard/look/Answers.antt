use Rattle.std.proofs.Common.{rules, arith}
use Rattle.board.proofs.CardLists.{length-contents, slice_index-contents}
use Rattle.board.proofs.card.CardBoardBoard.look.Goals as goal

pub returns-in_err-at : goal.returns-in_err-at
returns-in_err-at c = search (rules, length-contents)

pub returns : goal.returns
returns c = grind (arith, length-contents, slice_index-contents)
