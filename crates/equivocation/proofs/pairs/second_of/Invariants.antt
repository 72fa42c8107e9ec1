use Rattle.std.proofs.Common.{◌≡◌, ◌+◌, ◌-◌}
use Rattle.std.specs.List.{concat}
use Rattle.quorum.specs.Certificate.{receipt_count}
use Rattle.equivocation.specs.Marks.{second_in}
use Rattle.equivocation.proofs.pairs.second_of.Given as goal

abbrev pub invariant-loop-q : goal.invariant-loop-q
invariant-loop-q l = second_in l.marks (concat l.receipts) l.p (receipt_count (concat l.receipts) - (l.p + 1)) (l.p + 1) ≡ second_in l.marks (concat l.receipts) l.p (receipt_count (concat l.receipts) - l.q) l.q
