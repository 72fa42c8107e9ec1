use mathlib.Core.Path.{◌≡◌}
use lib.Seq.{paste}
use lib.ListN.{length}
use Rattle.octets.proofs.put.Given as given

abbrev pub invariant-loop-i : given.invariant-loop-i
invariant-loop-i l = (length l.out ≡ length l.initial.out) × (l.out ≡ paste l.initial.out l.at l.part l.i)
