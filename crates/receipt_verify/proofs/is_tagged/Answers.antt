-- `receipt_verify::is_tagged` meets its contract.
use Rattle.std.proofs.Common.{◌≡◌, refl, ap, ap₂, ◌∙◌, true, length, arith}
use Rattle.hmac.specs.Hmac.{hmac}
use Rattle.hmac.proofs.BlockLaws.{tag_six}
use Rattle.octets.specs.Octets.{same}
use Rattle.octets.proofs.Parts.{length_part}
use Rattle.receipt.specs.Verdict.{is_tagged}
use Rattle.refusal.specs.Unwritten.{unwritten, counts}
use Rattle.receipt_verify.proofs.is_tagged.Code.Mir.{function}
use Rattle.receipt_verify.proofs.is_tagged.Goals as goal

-- no literal of the body becomes the count
pub counted : unwritten counts function.body ≡ true
counted = refl

pub returns : goal.returns
unfolding is_tagged
returns c = (
  c.equal.ensures ∙ ap₂ same c.tag_of.ensures (c.tag_of-tag.ensures.0 ∙ ap (hmac c.args.key.now) c.attested_of.ensures),
  c.tag_of-tag.ensures.1 ∙ tag_six c.args.key.now _ c.told-key (ap length c.attested_of.ensures ∙ length_part c.args.r.now 0 128 (omega (arith, c.told-r))),
)
