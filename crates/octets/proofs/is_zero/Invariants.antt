use Rattle.octets.specs.Octets.{same, zeros}
use lib.ListN.{length, take}
use lib.Dec.{eqb}
use mathlib.Core.Path.{◌≡◌}
use Rattle.octets.proofs.is_zero.Given as given

abbrev pub invariant-loop-b : given.invariant-loop-b
invariant-loop-b l = eqb l.any 0 ≡ same (take l.b-index l.s) (take l.b-index (zeros (length l.s)))
