-- `sha256_words::big1` meets its contract.
use Rattle.std.proofs.Common.{arith}
use Rattle.sha256.specs.Words.{rotr, Σ1}
use Rattle.sha256.proofs.Rotations.{chained}
use Rattle.sha256_words.proofs.big1.Goals as goal

pub returns : goal.returns
unfolding Σ1 rotr
returns c = rw (c.rotate_right-3.ensures, c.rotate_right-2.ensures, c.rotate_right.ensures) (chained 6 5 14 c.args.x (omega arith) c.ranges.x.fits)
