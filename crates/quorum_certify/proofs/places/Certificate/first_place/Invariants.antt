use Rattle.std.specs.List.{concat}
use Rattle.std.proofs.Common.{◌≡◌, ◌-◌, length}
use Rattle.quorum.specs.Tally.{first_in}
use Rattle.quorum_certify.proofs.places.Certificate.first_place.Given as goal

abbrev pub invariant-loop-place : goal.invariant-loop-place
invariant-loop-place l = let n = length l.self.receipts.now in first_in l.self.members.now (concat l.self.receipts.now) l.need n n 0 ≡ first_in l.self.members.now (concat l.self.receipts.now) l.need n (n - l.place) l.place
