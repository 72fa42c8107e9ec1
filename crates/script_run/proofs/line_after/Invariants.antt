use Rattle.std.proofs.Common.{◌≡◌, ◌+◌, ◌≤◌, drop}
use Rattle.script.specs.Stream.{newlines}
use Rattle.script_run.proofs.line_after.Given as given

abbrev pub invariant-loop-b : given.invariant-loop-b
invariant-loop-b l = (l.n ≤ l.first + l.b-index) × (l.first + newlines l.answers ≡ l.n + newlines (drop l.b-index l.answers))
