-- `sha256_running::Running::new` meets its contract.
use Rattle.sha256_digest.specs.Absorbed.{start}
use Rattle.sha256_running.specs.Running.{state_of}
use Rattle.sha256_digest.proofs.Absorbed.{state-eq}
use mathlib.Core.Path.{refl}
use Rattle.sha256_running.proofs.Running.new.Goals as goal

pub returns : goal.returns
unfolding state_of start
returns c = state-eq c.initial-h.ensures.0 refl refl c.initial-h.ensures.1
