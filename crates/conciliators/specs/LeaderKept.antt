-- The leader conciliator keeps the laws.
use Rattle.std.specs.Prelude.{◌≡◌, refl}
use Rattle.std.proofs.Common.{arith}
use Rattle.std.proofs.lemmas.Bool.Decides.{nat_tests}
use Rattle.machine.specs.Kept.{Kept}
use Rattle.conciliators.specs.Adopting.{EmptyOrMark, adopting_kept}
use Rattle.conciliators.specs.Leader.{leader_conciliator}

pub leader_kept : Kept leader_conciliator EmptyOrMark
leader_kept = adopting_kept leader_conciliator (record {
  one_register = λ u. refl;
  not_ratifying = refl;
  limit_within = λ u some few. (omega arith, omega arith);
  Placed = λ u x k ph. k ≡ 0;
  begun = λ u x. refl;
  written = λ u x w k ph placed. placed;
  bounded = λ u x k ph placed. omega arith;
  planned = λ u s v ph. grind (arith, nat_tests);
  turned = λ u xs s c v k ph below placed. grind (arith, nat_tests);
})
