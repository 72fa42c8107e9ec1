-- `sha256_running::pressed` meets its contract.
use Rattle.std.proofs.Common.{◌≡◌, ℕ, ◌/◌, List, length, ap, ◌∙◌, arith}
use Rattle.sha256.specs.Sha256.{blocks}
use Rattle.sha256_running.proofs.Absorb.{no_block}
use Rattle.sha256_running.proofs.pressed.Goals as goal
use Rattle.sha256_running.proofs.pressed.Goals.{After-compress_blocks-first}

-- the hash value after the block
first : (c : After-compress_blocks-first) → c.compress_blocks-first.result.value ≡ blocks 1 c.args.before.value c.args.block.now
first c = let one : length c.args.block.now / 64 ≡ 1 = omega arith in
    c.compress_blocks-first.ensures.0 ∙ ap (λ (n : ℕ). blocks n c.args.before.value c.args.block.now) one

pub returns-then-rest-lt64 : goal.returns-then-rest-lt64
returns-then-rest-lt64 c = let p : List ℕ = c.args.rest.now in
    (first (goal.at.returns-then-rest-lt64 c).After-compress_blocks-first ∙ no_block p _ (omega arith), omega arith)
