use Rattle.std.proofs.Common.{◌≡◌, ◌*◌, ◌++◌, length, take, drop}
use Rattle.sha256.specs.Sha256.{bytes}
use Rattle.sha256_digest.proofs.digest.Given as given

abbrev pub invariant-loop-i : given.invariant-loop-i
invariant-loop-i l = (l.out ≡ bytes (take l.i l.fn.h) ++ drop (l.i * 4) l.initial.out) × (length l.out ≡ 32)
