use mathlib.Core.Path.{◌≡◌}
use Prim.Native.Nat.{◌*◌}
use Rattle.sha256.specs.Sha256.{sha256}
use Rattle.runs.specs.Run.{digest_at}
use Rattle.runs.specs.Lent.{whole}
use Rattle.runs_scan.proofs.digest_at.Given as given

abbrev pub invariant-loop-k : given.invariant-loop-k
invariant-loop-k l = (l.digest ≡ digest_at sha256 (whole l.run) l.k) × (l.blocks ≡ 2 * l.k)
