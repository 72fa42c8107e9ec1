use Rattle.roster.specs.Roster.{distinct}
use Rattle.std.specs.List.{concat}
use Rattle.std.proofs.Common.{true, ◌≡◌}
use Rattle.roster.proofs.are_distinct.Given as goal

-- the keeper numbers up to here are distinct
abbrev pub invariant-loop-i : goal.invariant-loop-i
invariant-loop-i l = distinct (concat l.roster) l.i ≡ true
