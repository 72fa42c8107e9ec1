-- `sha256_rounds::turn` meets its contract.
use Rattle.std.proofs.Common.{ℕ, List, get_or}
use Rattle.sha256.specs.Words.{σ0, σ1}
use Rattle.sha256_rounds.specs.Window.{turned, slid}
use Rattle.sha256_rounds.proofs.Sums.{turned-round}
use Rattle.sha256_rounds.proofs.turn.Goals as goal

pub returns : goal.returns
unfolding turned slid
returns c = let w : List ℕ = c.args.s.w in
    rw (c.round-after.ensures, c.small0.ensures, c.small1.ensures, turned-round (σ1 (get_or w 14 0)) (get_or w 9 0) (σ0 (get_or w 1 0)) (get_or w 0 0))
