-- `hmac::tag` meets its contract.
use Rattle.std.proofs.Common.{◌≡◌, true, refl, ◌∙◌, arith}
use Rattle.refusal.proofs.WorkLaws.{refused-works, done-works}
use Rattle.refusal.specs.Unwritten.{unwritten, counts}
use Rattle.hmac.specs.Hmac.{hmac, tag_blocks}
use Rattle.hmac.proofs.TagCases.{other_length, long-key-refused, long-text-refused, accepted}
use Rattle.hmac.proofs.tag.Code.Mir.{function}
use Rattle.hmac.proofs.tag.Goals as goal

-- no literal of the body becomes the count
pub counted : unwritten counts function.body ≡ true
counted = refl

pub returns-then-out-ne32 : goal.returns-then-out-ne32
returns-then-out-ne32 c = let e = c.into.ensures in
    let d = refused-works 7 _ (hmac c.args.key.now c.args.text.now) c.args.out.now (other_length c.args.key.now c.args.text.now c.args.out.now c.if-out-ne32.true) in
    record { answer = rw e d.0; blocks = rw e d.1.0; bytes = d.1.1 }

pub returns-then-key-ge-TOO_LONG : goal.returns-then-key-ge-TOO_LONG
returns-then-key-ge-TOO_LONG c = let e = c.into-then-key-ge-TOO_LONG.ensures in
    let d = refused-works 7 _ (hmac c.args.key.now c.args.text.now) c.args.out.now (long-key-refused c.args.key.now c.args.text.now c.args.out.now c.if-out-ne32.false c.if-key-ge-TOO_LONG.true) in
    record { answer = rw e d.0; blocks = rw e d.1.0; bytes = d.1.1 }

pub returns-then-text : goal.returns-then-text
returns-then-text c = let e = c.into-then-text.ensures in
    let d = refused-works 7 _ (hmac c.args.key.now c.args.text.now) c.args.out.now (long-text-refused c.args.key.now c.args.text.now c.args.out.now c.if-out-ne32.false c.if-key-ge-TOO_LONG.false (omega (arith, c.if-text.true))) in
    record { answer = rw e d.0; blocks = rw e d.1.0; bytes = d.1.1 }

pub returns : goal.returns
returns c = let t = hmac c.args.key.now c.args.text.now in
    let d = done-works (tag_blocks c.args.key.now c.args.text.now) t c.args.out.now (accepted c.args.key.now c.args.text.now c.args.out.now c.if-out-ne32.false c.if-key-ge-TOO_LONG.false (omega (arith, c.if-text.false))) in
    record { answer = d.0; blocks = c.tag_of-tag.ensures.1 ∙ d.1.0; bytes = c.copy_from_slice.ensures.after ∙ c.tag_of-tag.ensures.0 ∙ d.1.1 }
