-- `sha256_digest::prefixed_digest` meets its contract (`after_block`).
use Rattle.sha256_digest.proofs.Absorbed.{digest-is, after_block}
use mathlib.Core.List.{◌++◌}
use native.Mathlib.Omega.{arith}
use Rattle.sha256_digest.proofs.prefixed_digest.Goals as goal

pub returns : goal.returns
returns c = digest-is (c.args.block.now ++ c.args.text.now) _ c.digest_from.result (after_block c.initial.result c.compress_blocks.result c.args.block.now c.args.text.now (omega arith) c.initial.ensures c.compress_blocks.ensures) c.digest_from.ensures
