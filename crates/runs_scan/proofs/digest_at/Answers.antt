-- `runs_scan::digest_at` meets its contract.
use mathlib.Core.Path.{refl}
use native.Mathlib.Omega.{arith}
use Rattle.runs.specs.Run.{count}
use Rattle.runs.specs.Lent.{whole}
use Rattle.runs.proofs.ScanLaws.{digest-start, digest-step}
use Rattle.runs_scan.proofs.digest_at.Goals as goal

pub loop-k-init : goal.loop-k-init
loop-k-init c = (digest-start (whole c.args.run.now) _ refl, refl)

pub overflow_add-blocks : goal.overflow_add-blocks
unfolding count
overflow_add-blocks c = omega (arith, c.walked-next.ensures.1)

pub loop-k-preserved : goal.loop-k-preserved
loop-k-preserved c = (digest-step (whole c.args.run.now) c.loop-k.k c.loop-k.invariant.0 c.walked-next.ensures.0, omega (arith, c.walked-next.ensures.1))
