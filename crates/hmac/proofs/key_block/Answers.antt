-- `hmac::key_block` meets its contract.
use Rattle.hmac.proofs.Keys.{padded-is, short-key, long-key}
use Rattle.hmac.proofs.BlockLaws.{no-key-blocks, key-blocks}
use Rattle.hmac.specs.Hmac.{padded}
use mathlib.Core.Path.{ap, ◌∙◌, ◌≡◌, refl}
use mathlib.Core.Bool.{true}
use Rattle.refusal.specs.Unwritten.{unwritten, counts}
use Rattle.hmac.proofs.key_block.Code.Mir.{function}
use Rattle.hmac.proofs.key_block.Goals as goal

-- no literal of the body becomes the count
pub counted : unwritten counts function.body ≡ true
counted = refl

pub returns-then-key-le64 : goal.returns-then-key-le64
returns-then-key-le64 c = (c.put.ensures ∙ padded-is c.args.key.now ∙ ap padded (short-key c.args.key.now c.if-key-le64.true), no-key-blocks c.args.key.now c.if-key-le64.true)

pub returns : goal.returns
returns c = (c.put-2.ensures ∙ padded-is c.digest_of-digest.result.value ∙ ap padded (c.digest_of-digest.ensures.0 ∙ long-key c.args.key.now c.if-key-le64.false), c.digest_of-digest.ensures.1 ∙ key-blocks c.args.key.now c.if-key-le64.false)
