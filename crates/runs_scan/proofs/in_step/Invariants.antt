use mathlib.Core.Path.{◌≡◌}
use Prim.Native.Nat.{◌+◌, ◌*◌}
use Rattle.sha256.specs.Sha256.{sha256}
use Rattle.runs.specs.Run.{digest_at}
use Rattle.runs.specs.Lent.{whole}
use Rattle.runs.proofs.ScanLaws.{Keeps}
use Rattle.runs_scan.proofs.in_step.Given as given

abbrev pub invariant-loop-k : given.invariant-loop-k
invariant-loop-k l = (l.digest1 ≡ digest_at sha256 (whole l.one) (l.i + l.k)) × (l.digest2 ≡ digest_at sha256 (whole l.two) (l.j + l.k))
    × (l.blocks ≡ 2 * (l.i + l.k) + 2 * (l.j + l.k)) × Keeps (whole l.one) (whole l.two) l.i l.j l.k l.unequal
