-- `hmac::tag_of` meets its contract.
use Rattle.hmac.specs.Hmac.{hmac, tag_blocks}
use Rattle.hmac.proofs.BlockLaws.{tag_fits, tag_is}
use native.Mathlib.Omega.{arith}
use mathlib.Core.Path.{◌≡◌, refl}
use Prim.Native.Nat.{◌+◌}
use mathlib.Core.Bool.{true}
use Rattle.refusal.specs.Unwritten.{unwritten, counts}
use Rattle.hmac.proofs.tag_of.Code.Mir.{function}
use Rattle.hmac.proofs.tag_of.Goals as goal
use Rattle.hmac.proofs.tag_of.Goals.{After-struct_known-1}

-- no literal of the body becomes the count
pub counted : unwritten counts function.body ≡ true
counted = refl

-- the tag, and the sum of the blocks
total : (c : goal.After-struct_known-1) → (c.prefixed_digest-outer.result.value ≡ hmac c.args.key.now c.args.text.now) × (c.key_block-key.result.blocks + c.prefixed_digest-inner.result.blocks + c.prefixed_digest-outer.result.blocks ≡ tag_blocks c.args.key.now c.args.text.now)
total c = tag_is c.args.key.now c.args.text.now _ _ _ _ _ _ _ _ c.key_block-key.ensures c.mask.ensures c.prefixed_digest-inner.ensures c.mask-2.ensures c.prefixed_digest-outer.ensures

pub overflow_add-result : goal.overflow_add-result
overflow_add-result c = omega (arith, (total c).1, tag_fits c.args.key.now c.args.text.now c.requires.0 c.requires.1)

pub overflow_add-result-2 : goal.overflow_add-result-2
overflow_add-result-2 c = omega (arith, (total (goal.at.overflow_add-result-2 c).After-struct_known-1).1, tag_fits c.args.key.now c.args.text.now c.requires.0 c.requires.1)

pub returns : goal.returns
returns c = total (goal.at.returns c).After-struct_known-1
