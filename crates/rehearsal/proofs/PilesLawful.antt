-- The law of runs, of every pile and of everything that a pile can be made of.
use Rattle.std.proofs.Common.{List}
use Rattle.trial.specs.declared.call.Call.{Call}
use Rattle.trial.specs.Perform.{AllSmall}
use Rattle.trial.specs.Trials.{LawfulTrial}
use Rattle.trial.proofs.Makings.{lawful_trial}
use Rattle.rehearsal.specs.Agreement.{composed, Agreement}
use Rattle.rehearsal.specs.Piles.{Built, built}

lawful : (d : Built) (calls : List Call) → AllSmall calls → LawfulTrial d.machine d.start calls
lawful d calls small = lawful_trial d.machine d.deciding d.start d.reached calls small

pub agreement : Agreement
agreement = record { every_composition = λ c. lawful (composed c); six_piles = λ p n leader. lawful (built p n leader) }
