use Rattle.std.proofs.Common.{◌≡◌, List, ℕ, ◌++◌, length}
use Rattle.script.specs.Stream.{Feeds}
use Rattle.script_pieces.proofs.pieces.Script.feed.Given as given

abbrev pub invariant-loop-rest : given.invariant-loop-rest
invariant-loop-rest l = (read : List ℕ) × (l.piece ≡ read ++ l.rest) × Feeds read l.initial.self.table l.initial.self.held l.initial.self.number l.initial.out l.self.table l.self.held l.self.number l.out l.to

abbrev pub decreases-loop-rest : given.decreases-loop-rest
decreases-loop-rest l = length l.rest
