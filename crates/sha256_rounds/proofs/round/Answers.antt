-- `sha256_rounds::round` meets its contract.
use Rattle.std.proofs.Common.{ℕ, List, get_or}
use Rattle.sha256.specs.Words.{Σ0, Maj}
use Rattle.sha256.specs.Sha256.{round, T1, T2}
use Rattle.sha256_rounds.proofs.Sums.{one-by-one}
use Rattle.sha256_rounds.proofs.round.Goals as goal

pub returns : goal.returns
unfolding round T1 T2
returns c = let v : List ℕ = c.args.v in
    let a : ℕ = get_or v 0 0 in
    rw (c.majority.ensures, c.big0.ensures, c.big1.ensures, c.choice-ch.ensures, one-by-one (T1 v c.args.k c.args.w) (Σ0 a) (Maj a (get_or v 1 0) (get_or v 2 0)))
