-- `sha256_words::small0` meets its contract.
use Rattle.std.specs.Int.Bits.{bit_xor}
use Rattle.std.proofs.Common.{ℕ, ◌/◌, ◌^◌, ap, arith}
use Rattle.sha256.specs.Words.{rotr, σ0}
use Rattle.sha256.proofs.Rotations.{paired}
use Rattle.sha256_words.proofs.small0.Goals as goal

pub returns : goal.returns
unfolding σ0 rotr
returns c = rw (c.rotate_right-2.ensures, c.rotate_right.ensures) (ap (λ (u : ℕ). bit_xor u (c.args.x / 2 ^ 3)) (paired 7 11 c.args.x (omega arith) c.ranges.x.fits))
