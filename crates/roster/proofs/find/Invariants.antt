use Rattle.roster.specs.Roster.{member}
use Rattle.std.specs.List.{concat}
use Rattle.std.proofs.Common.{length, ◌≡◌}
use Rattle.roster.proofs.find.Given as goal

abbrev pub invariant-loop-i : goal.invariant-loop-i
invariant-loop-i l = member (concat l.roster) l.keeper (length l.roster) ≡ member (concat l.roster) l.keeper l.i
