-- Where an operation leads: on to another phase, or to an outcome.
use Rattle.deciding.specs.declared.record.Outcome.{Outcome}

pub data Turn (Phase : Type 0) : Type 0 where
  On : Phase → Turn Phase
  End : Outcome → Turn Phase
