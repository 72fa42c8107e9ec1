use Rattle.std.specs.List.{concat}
use Rattle.std.proofs.Common.{◌≡◌, ◌≤◌, ℕ, length, get_or, None}
use Rattle.quorum.specs.Tally.{Tallied, blocks_below}
use Rattle.quorum_tally.proofs.tally_of.Given as goal

-- the places up to here are in the tally, and their blocks are counted
abbrev pub invariant-loop-p : goal.invariant-loop-p
invariant-loop-p l = (length l.members ≡ 32) × (Tallied (concat l.roster) l.nonce l.log l.position (concat l.pile) l.p l.members × ((l.blocks ≡ blocks_below (concat l.roster) (concat l.pile) l.p) × ((q : ℕ) → l.p ≤ q → get_or l.members q None ≡ None)))
