use Rattle.std.proofs.Common.{◌≡◌, drop}
use Rattle.decimal.specs.Decimal.{read_after}
use Rattle.decimal.proofs.read.parse.Given as goal

abbrev pub invariant-loop-b : goal.invariant-loop-b
invariant-loop-b l = read_after 0 l.s ≡ read_after l.v (drop l.b-index l.s)
