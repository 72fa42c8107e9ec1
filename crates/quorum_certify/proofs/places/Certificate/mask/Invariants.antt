use Rattle.std.specs.List.{concat}
use Rattle.std.proofs.Common.{◌≡◌}
use Rattle.quorum.specs.Tally.{mask_at}
use Rattle.quorum_certify.proofs.places.Certificate.mask.Given as goal

abbrev pub invariant-loop-q : goal.invariant-loop-q
invariant-loop-q l = l.mask ≡ mask_at l.self.members.now (concat l.self.receipts.now) l.q l.p
