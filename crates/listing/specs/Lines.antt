-- The text of each line.
use Rattle.std.specs.Prelude.{ℕ, List, [], ◌∷◌, Some, None, Option}
use Rattle.refusal.specs.Numbers.{number_of}
use Rattle.deciding.specs.declared.record.Access.{Access}
use Rattle.deciding.specs.declared.record.Access.TheVariants as access
use Rattle.deciding.specs.declared.record.Outcome.{Outcome}
use Rattle.deciding.specs.declared.record.Outcome.TheVariants as outcome
use Rattle.deciding.specs.Laws.{mark}
use Rattle.schedule.specs.Piles.{number_of_pile}
use Rattle.listing.specs.declared.line.Line.{Line}
use Rattle.listing.specs.declared.line.Line.TheVariants as line
use Rattle.listing.specs.declared.word.Word.{Word}
use Rattle.listing.specs.declared.word.Word.TheVariants.{Pile, Stations, Limit, Registers, Enter, Mark, Step, Read, Write, Adopt, Commit, Stop, Refused, Number}
use Rattle.listing.specs.Words.{line_of}

abbrev pub access_word : Access → Word
access_word access.Read = Read
access_word access.Write = Write

abbrev pub outcome_word : Outcome → Word
outcome_word (outcome.Adopt u) = Adopt
outcome_word (outcome.Commit u) = Commit

abbrev pub outcome_words : Option Outcome → List Word
outcome_words None = []
outcome_words (Some o) = outcome_word o ∷ Number (mark o) ∷ []

abbrev pub words : Line → List Word
words (line.Pile p n l r) = Pile ∷ Number (number_of_pile p) ∷ Stations ∷ Number n ∷ Limit ∷ Number l ∷ Registers ∷ Number r ∷ []
words (line.Entered s v) = Enter ∷ Number s ∷ Mark ∷ Number v ∷ []
words (line.Stepped s i o) = Step ∷ Number s ∷ access_word i.access ∷ Number i.register ∷ Number i.content ∷ outcome_words o
words (line.Stopped s) = Stop ∷ Number s ∷ []
words (line.Refused q) = Refused ∷ Number (number_of q) ∷ []

unfoldable pub text : Line → List ℕ
text l = line_of (words l)
