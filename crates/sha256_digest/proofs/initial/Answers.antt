-- `sha256_digest::initial` meets its contract.
use Rattle.sha256.specs.Sha256.{H0}
use mathlib.Core.Path.{refl}
use Rattle.sha256_digest.proofs.initial.Goals as goal

pub returns : goal.returns
unfolding H0
returns c = (refl, refl)
