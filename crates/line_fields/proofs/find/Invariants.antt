use Rattle.std.proofs.Common.{◌≡◌, ◌+◌, length, drop}
use Rattle.line.specs.Fields.{up_to}
use Rattle.line_fields.proofs.find.Given as given

abbrev pub invariant-loop-i : given.invariant-loop-i
invariant-loop-i l = length (up_to l.mark l.s) ≡ l.i + length (up_to l.mark (drop l.i l.s))
