use Rattle.std.proofs.Common.{◌≡◌, length}
use Rattle.std.specs.List.{concat}
use Rattle.quorum.specs.Tally.{blocks_below}
use Rattle.equivocation.specs.Marks.{Marked}
use Rattle.equivocation.proofs.checking.marks_of.Given as goal

abbrev pub invariant-loop-p : goal.invariant-loop-p
invariant-loop-p l = record {
  blocks : l.blocks ≡ blocks_below (concat l.roster) (concat l.receipts) l.p;
  size : length l.marks ≡ 32;
  marks : Marked (concat l.roster) (concat l.receipts) l.p l.marks;
}
