-- `sha256_blocks::sum` meets its contract.
use Rattle.std.proofs.Common.{refl}
use Rattle.sha256.specs.Sha256.{added}
use Rattle.sha256_blocks.proofs.sum.Goals as goal

pub returns : goal.returns
unfolding added
returns c = refl
