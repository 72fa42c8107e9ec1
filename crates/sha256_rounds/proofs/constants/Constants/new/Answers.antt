-- `sha256_rounds::constants::Constants::new` makes the constants of the standard.
use Rattle.std.proofs.Common.{refl}
use Rattle.sha256.specs.Sha256.{K}
use Rattle.sha256_rounds.proofs.constants.Constants.new.Goals as goal

pub invariant_of-result : goal.invariant_of-result
unfolding K
invariant_of-result c = record { standard = refl }
