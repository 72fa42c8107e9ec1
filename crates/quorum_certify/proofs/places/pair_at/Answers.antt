-- `quorum_certify::places::pair_at` meets its contract.
use Rattle.std.proofs.Common.{◌∙◌}
use Rattle.quorum.proofs.Piles.{pair-of}
use Rattle.quorum_certify.proofs.places.pair_at.Goals as goal

pub returns : goal.returns
returns c = c.pair_of.ensures ∙ pair-of c.args.receipts.now c.told-receipts c.args.p c.requires
