use Rattle.std.proofs.Common.{◌≡◌, ◌+◌}
use Rattle.sha256.specs.Sha256.{blocks as blocks_after}
use Rattle.sha256_blocks.proofs.compress_blocks.Given as given

abbrev pub invariant-loop-block : given.invariant-loop-block
invariant-loop-block l = (l.h ≡ blocks_after l.block-index l.initial.h l.s) × (l.blocks ≡ l.initial.blocks + l.block-index)
