-- `octets::is_zero` meets its contract.
use Rattle.octets.proofs.Same.{same_none}
use Rattle.octets.specs.Octets.{zeros}
use lib.ListN.{length}
use native.Mathlib.Omega.{arith}
use mathlib.Core.Path.{◌∙◌}
use Rattle.octets.proofs.Zeros.{zero_more, zero-all}
use Rattle.octets.proofs.is_zero.Goals as goal

pub loop-b-init : goal.loop-b-init
loop-b-init c = same_none c.args.s.now (zeros (length c.args.s.now))

pub loop-b-preserved : goal.loop-b-preserved
loop-b-preserved c = zero_more c.args.s.now c.loop-b.b-index c.loop-b.any (omega arith) c.loop-b.invariant

pub returns : goal.returns
returns c = c.loop-b.invariant ∙ zero-all c.args.s.now c.loop-b.b-index (omega arith)
