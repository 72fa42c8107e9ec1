-- `sha256_blocks::compress_blocks` meets its contract.
use Rattle.std.proofs.Common.{◌≡◌, ℕ, ◌*◌, ◌/◌, List, [], length, get_or, take, drop, refl, ap, ap₂, ◌∙◌, add-one, arith}
use Rattle.sha256.specs.Sha256.{compress, blocks}
use Rattle.sha256_blocks.proofs.Chunks.{chunk-is}
use Rattle.sha256_blocks.proofs.compress_blocks.Goals as goal

pub loop-block-init : goal.loop-block-init
unfolding blocks
loop-block-init c = (refl, omega arith)

pub loop-block-preserved : goal.loop-block-preserved
unfolding blocks
loop-block-preserved c = let s : List ℕ = c.args.s.now in
    let i : ℕ = c.loop-block.block-index in
    let block : get_or c.as_chunks.result.0.now i [] ≡ take 64 (drop (i * 64) s) =
    ap (λ (l : List (List ℕ)). get_or l i []) c.as_chunks.ensures.front ∙ chunk-is (length s / 64) i s [] (omega arith) in
    (rw add-one (c.compress-next.ensures ∙ ap₂ compress c.loop-block.invariant.0 block), omega arith)
