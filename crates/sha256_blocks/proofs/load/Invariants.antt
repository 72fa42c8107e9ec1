use Rattle.std.proofs.Common.{◌≡◌, length, take}
use Rattle.sha256.specs.Sha256.{words}
use Rattle.sha256_blocks.proofs.load.Given as given

abbrev pub invariant-loop-t : given.invariant-loop-t
invariant-loop-t l = (length l.w ≡ 16) × (take l.t l.w ≡ words l.t l.block)
