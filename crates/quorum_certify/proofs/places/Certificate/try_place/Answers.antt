-- `quorum_certify::places::Certificate::try_place` meets its contract.
use Rattle.std.proofs.Common.{length, ◌∙◌}
use Rattle.std.specs.List.{concat}
use Rattle.quorum.proofs.Tallies.{not_good, tried-good}
use Rattle.quorum_certify.proofs.places.Certificate.try_place.Goals as goal

pub returns-in_err-self : goal.returns-in_err-self
returns-in_err-self c = c.from_residual.ensures ∙ not_good c.args.self.members.now (concat c.args.self.receipts.now) c.args.need (length c.args.self.receipts.now) c.args.p c.in_err-self.was

pub returns : goal.returns
returns c = tried-good c.args.self.members.now (concat c.args.self.receipts.now) c.args.need (length c.args.self.receipts.now) c.args.p c.in_ok-self.was c.mask-mask.ensures c.then_some.ensures
