use Rattle.std.proofs.Common.{◌≡◌, ℕ, ◌*◌, ◌≤◌, List, [], length}
use Rattle.std.specs.Io.KnownBytes.{Appends, Consumes}
use Rattle.script.specs.Stream.{answered, After}
use Rattle.script_run.proofs.read_all.Given as given

abbrev pub invariant-loop : given.invariant-loop
invariant-loop g l =
    (length l.out ≡ 1376256)
    × ((read : List ℕ) × After read l.script.table l.script.held l.script.number × (length read ≤ l.counter * 8192)
    × Consumes (g.R.Read.remaining l.initial.input) (g.R.Read.remaining l.input) read
    × Appends (g.W.Write.contents l.initial.output) (g.W.Write.contents l.output) (answered [] [] 1 read))
