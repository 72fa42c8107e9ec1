-- `receipt_write::put_receipt` meets its contract.
use Rattle.std.proofs.Common.{◌≡◌, refl, true}
use Rattle.receipt.specs.Writer.{attested_said}
use Rattle.receipt.proofs.Writing.{tag-behind}
use Rattle.refusal.specs.Unwritten.{unwritten, counts}
use Rattle.receipt_write.proofs.put_receipt.Code.Mir.{function}
use Rattle.receipt_write.proofs.put_receipt.Goals as goal

-- no literal of the body becomes the count
pub counted : unwritten counts function.body ≡ true
counted = refl

pub returns-clause-bytes : goal.returns-clause-bytes
returns-clause-bytes c =
    tag-behind c.args.out.now c.args.key.now (attested_said c.args.a) c.told-out c.put_attested.ensures.size c.put_attested.ensures.bytes c.put_tag.ensures.bytes
