-- The number of the question that each refusal answers no to. Questions are asked in the order of their numbers.
use Rattle.std.specs.Prelude.{ℕ, Some, None, Option}
use Rattle.refusal.specs.declared.Refusal.{Refusal}
use Rattle.refusal.specs.declared.Refusal.TheVariants.{ScheduleTooLong, ListingFull, UnknownLetter, OperandsMissing, UnknownPile, StationCount, LeaderOutOfRange, TooFewRegisters, RegistersInUse, StationsDiffer, NotAllAway, TooLarge, NoSuchRegister, NoPile, NoSuchStation, Stopped, AlreadyEntered, NotEntered, AlreadyAnswered}

abbrev pub number_of : Refusal → ℕ
number_of ScheduleTooLong = 1
number_of ListingFull = 2
number_of UnknownLetter = 3
number_of OperandsMissing = 4
number_of UnknownPile = 5
number_of StationCount = 6
number_of LeaderOutOfRange = 7
number_of TooFewRegisters = 8
number_of RegistersInUse = 9
number_of StationsDiffer = 10
number_of NotAllAway = 11
number_of TooLarge = 12
number_of NoSuchRegister = 13
number_of NoPile = 14
number_of NoSuchStation = 15
number_of Stopped = 16
number_of AlreadyEntered = 17
number_of NotEntered = 18
number_of AlreadyAnswered = 19

-- 0 where nothing was refused
abbrev pub number_or_zero : Option Refusal → ℕ
number_or_zero None = 0
number_or_zero (Some r) = number_of r
