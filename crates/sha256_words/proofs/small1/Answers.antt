-- `sha256_words::small1` meets its contract.
use Rattle.std.specs.Int.Bits.{bit_xor}
use Rattle.std.proofs.Common.{ℕ, ◌/◌, ◌^◌, ap, arith}
use Rattle.sha256.specs.Words.{rotr, σ1}
use Rattle.sha256.proofs.Rotations.{paired}
use Rattle.sha256_words.proofs.small1.Goals as goal

pub returns : goal.returns
unfolding σ1 rotr
returns c = rw (c.rotate_right-2.ensures, c.rotate_right.ensures) (ap (λ (u : ℕ). bit_xor u (c.args.x / 2 ^ 10)) (paired 17 2 c.args.x (omega arith) c.ranges.x.fits))
