-- Small schedules, and how they are read.
use Rattle.std.proofs.Common.{◌≡◌, [], ◌∷◌, refl}
use Rattle.refusal.specs.declared.Refusal.TheVariants.{UnknownLetter, OperandsMissing}
use Rattle.schedule.specs.Script.{command, broken, new, enter, step, stop, script}

-- an N, an E, an S and an L; the operands may be letters themselves
pub whole : script (78 ∷ 1 ∷ 3 ∷ 0 ∷ 69 ∷ 2 ∷ 76 ∷ 83 ∷ 2 ∷ 83 ∷ 76 ∷ 2 ∷ []) ≡ command new (1 ∷ 3 ∷ 0 ∷ []) ∷ command enter (2 ∷ 76 ∷ []) ∷ command step (2 ∷ 83 ∷ []) ∷ command stop (2 ∷ []) ∷ []
whole = refl

-- an E that lacks a byte
pub short : script (76 ∷ 4 ∷ 69 ∷ 2 ∷ []) ≡ command stop (4 ∷ []) ∷ broken OperandsMissing ∷ broken UnknownLetter ∷ []
short = refl

-- small letters are no letters of a schedule
pub strange : script (110 ∷ []) ≡ broken UnknownLetter ∷ []
strange = refl
