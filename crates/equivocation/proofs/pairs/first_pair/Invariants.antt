use Rattle.std.proofs.Common.{◌≡◌, ◌-◌}
use Rattle.std.specs.List.{concat}
use Rattle.quorum.specs.Certificate.{receipt_count}
use Rattle.equivocation.specs.Marks.{first_in}
use Rattle.equivocation.proofs.pairs.first_pair.Given as goal

abbrev pub invariant-loop-first : goal.invariant-loop-first
invariant-loop-first l = first_in l.marks (concat l.receipts) (receipt_count (concat l.receipts)) 0 ≡ first_in l.marks (concat l.receipts) (receipt_count (concat l.receipts) - l.first) l.first
