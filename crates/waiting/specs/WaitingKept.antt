-- The waiting conciliator is one of those on one register that write nothing but the own mark: it writes nothing at all.
use Rattle.std.specs.Prelude.{◌≡◌, ℕ, ◌<◌, refl}
use Rattle.std.proofs.Common.{arith}
use Rattle.std.proofs.lemmas.Bool.Decides.{nat_tests}
use Rattle.machine.specs.Kept.{Kept}
use Rattle.conciliators.specs.Adopting.{Adopting, EmptyOrMark, adopting_kept}
use Rattle.waiting.specs.declared.Waiting.{Waiting}
use Rattle.waiting.specs.declared.WaitingPhase.{WaitingPhase}
use Rattle.waiting.specs.declared.WaitingPhase.TheVariants.{Wait}
use Rattle.waiting.specs.Waiting.{waiting_limit, waiting_conciliator}

-- its steps are its reads
abbrev Placed : Waiting → ℕ → ℕ → WaitingPhase → Type 0
Placed u x k (Wait i) = (k ≡ i) × (i < waiting_limit u)

waiting_adopting : Adopting waiting_conciliator
waiting_adopting = record {
  one_register = λ u. refl;
  not_ratifying = refl;
  limit_within = λ u some few. (omega arith, omega arith);
  Placed = Placed;
  begun = λ u x. (refl, omega arith);
  written = λ u x w k ph placed. grind arith;
  bounded = λ u x k ph placed. grind arith;
  planned = λ u s v ph. refl;
  turned = λ u xs s c v k ph below placed. grind (arith, nat_tests);
}

pub waiting_kept : Kept waiting_conciliator EmptyOrMark
waiting_kept = adopting_kept waiting_conciliator waiting_adopting
