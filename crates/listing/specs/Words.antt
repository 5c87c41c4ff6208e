-- The bytes of a line, from the words that it is made of.
use Rattle.std.specs.Prelude.{ℕ, List, [], ◌∷◌, ◌++◌, codes, decimal}
use Rattle.listing.specs.declared.word.Word.{Word}
use Rattle.listing.specs.declared.word.Word.TheVariants.{Pile, Stations, Limit, Registers, Enter, Mark, Step, Read, Write, Adopt, Commit, Stop, Refused, Number}

-- numbers in decimal, without leading zeros
abbrev pub spelled : Word → List ℕ
spelled Pile = codes "pile"
spelled Stations = codes "stations"
spelled Limit = codes "limit"
spelled Registers = codes "registers"
spelled Enter = codes "enter"
spelled Mark = codes "mark"
spelled Step = codes "step"
spelled Read = codes "read"
spelled Write = codes "write"
spelled Adopt = codes "adopt"
spelled Commit = codes "commit"
spelled Stop = codes "stop"
spelled Refused = codes "refused"
spelled (Number n) = decimal n

-- what stands after a word: 0Ah after the last, a space after every other
abbrev pub between : List Word → ℕ
between [] = 10
between (w ∷ ws) = 32

unfoldable pub line_of : List Word → List ℕ
line_of [] = []
line_of (w ∷ ws) = spelled w ++ (between ws ∷ line_of ws)
