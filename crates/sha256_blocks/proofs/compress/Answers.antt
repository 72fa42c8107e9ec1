-- `sha256_blocks::compress` meets its contract.
use Rattle.sha256_rounds.proofs.Schedule.{all-rounds, length-words}
use Rattle.sha256_rounds.specs.declared.Window.{Window}
use Rattle.sha256_rounds.specs.Window.{turns, last_rounds}
use Rattle.sha256.specs.Sha256.{words, added, compress}
use Rattle.std.proofs.Common.{ℕ, List, ap, ◌∙◌}
use Rattle.sha256_blocks.proofs.compress.Goals as goal

pub returns : goal.returns
unfolding compress
returns c = c.sum.ensures
    ∙ ap (added c.args.h)
    (c.rounds16.ensures
    ∙ ap (λ (s : Window). last_rounds 16 s.v s.w 0)
    (c.turns48-s.ensures ∙ ap (λ (w : List ℕ). turns 48 (record { v = c.args.h; w = w }) 0) c.load-words.ensures)
    ∙ all-rounds (words 16 c.args.block.now) (length-words 16 c.args.block.now) c.args.h)
