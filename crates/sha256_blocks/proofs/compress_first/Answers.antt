-- `sha256_blocks::compress_first` meets its contract.
use Rattle.std.proofs.Common.{◌≡◌, ℕ, ◌+◌, ◌*◌, ◌/◌, List, length, take, ap, ◌∙◌, arith}
use Rattle.std.proofs.lemmas.List.{length-take-le}
use Rattle.sha256.specs.Sha256.{blocks}
use Rattle.sha256_blocks.proofs.Chunks.{blocks-within}
use Rattle.sha256_blocks.proofs.compress_first.Goals as goal

pub returns : goal.returns
returns c =
    let n : ℕ = c.args.n in
    let s : List ℕ = c.args.s.now in
    let size : length (take (n * 64) s) ≡ n * 64 = length-take-le (n * 64) s c.requires.0 in
    let count : length (take (n * 64) s) / 64 ≡ n = omega arith in (
      c.compress_blocks.ensures.0 ∙ ap (λ (k : ℕ). blocks k c.args.before.value (take (n * 64) s)) count ∙ blocks-within n n c.args.before.value s (omega arith),
      c.compress_blocks.ensures.1 ∙ ap (λ (k : ℕ). c.args.before.blocks + k) count,
    )
