-- `sha256_words::big0` meets its contract.
use Rattle.std.proofs.Common.{arith}
use Rattle.sha256.specs.Words.{rotr, Σ0}
use Rattle.sha256.proofs.Rotations.{chained}
use Rattle.sha256_words.proofs.big0.Goals as goal

pub returns : goal.returns
unfolding Σ0 rotr
returns c = rw (c.rotate_right-3.ensures, c.rotate_right-2.ensures, c.rotate_right.ensures) (chained 2 11 9 c.args.x (omega arith) c.ranges.x.fits)
