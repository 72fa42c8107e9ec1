-- `receipt_fields::pair_of` meets its contract.
use Rattle.std.proofs.Common.{◌∙◌}
use Rattle.receipt.proofs.Fields.{pair-bytes}
use Rattle.receipt_fields.proofs.pair_of.Goals as goal

pub returns : goal.returns
returns c = c.array_at.ensures ∙ pair-bytes c.args.r.now
