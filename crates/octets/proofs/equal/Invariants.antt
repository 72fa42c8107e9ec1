use Rattle.octets.specs.Octets.{same}
use lib.Dec.{eqb}
use mathlib.Core.Path.{◌≡◌}
use lib.ListN.{take}
use Rattle.octets.proofs.equal.Given as given

abbrev pub invariant-loop-i : given.invariant-loop-i
invariant-loop-i l = eqb l.diff 0 ≡ same (take l.i l.a) (take l.i l.b)
