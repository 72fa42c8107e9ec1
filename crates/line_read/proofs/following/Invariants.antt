use Rattle.std.proofs.Common.{◌≡◌, length, take, drop}
use Rattle.line_read.proofs.following.Given as given

abbrev pub invariant-loop-i : given.invariant-loop-i
invariant-loop-i l = (length l.r ≡ 16) × (take l.i l.r ≡ take l.i (drop 3 l.v))
