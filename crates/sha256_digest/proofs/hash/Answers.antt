-- `sha256_digest::hash` meets its contract.
use Rattle.refusal.proofs.WorkLaws.{refused-works, done-works}
use Rattle.sha256.specs.Sha256.{sha256, block_count}
use Rattle.sha256.proofs.HashCases.{other_length, too_long, accepted}
use Rattle.std.proofs.Common.{◌∙◌}
use Rattle.sha256_digest.proofs.hash.Goals as goal

pub returns-then-out-ne32 : goal.returns-then-out-ne32
returns-then-out-ne32 c = let d = refused-works 7 (block_count c.args.message.now) (sha256 c.args.message.now) c.args.out.now (other_length c.args.message.now c.args.out.now c.if-out-ne32.true) in
    record { answer = rw c.into.ensures d.0; blocks = rw c.into.ensures d.1.0; bytes = d.1.1 }

pub returns-then-message-ge-TOO_LONG : goal.returns-then-message-ge-TOO_LONG
returns-then-message-ge-TOO_LONG c = let e = c.into-then-message-ge-TOO_LONG.ensures in let d = refused-works 7 (block_count c.args.message.now) (sha256 c.args.message.now) c.args.out.now (too_long c.args.message.now c.args.out.now c.if-out-ne32.false c.if-message-ge-TOO_LONG.true) in
    record { answer = rw e d.0; blocks = rw e d.1.0; bytes = d.1.1 }

pub returns : goal.returns
returns c = let d = done-works (block_count c.args.message.now) (sha256 c.args.message.now) c.args.out.now (accepted c.args.message.now c.args.out.now c.if-out-ne32.false c.if-message-ge-TOO_LONG.false) in
    record { answer = d.0; blocks = c.digest_of-digest.ensures.1 ∙ d.1.0; bytes = c.copy_from_slice.ensures.after ∙ c.digest_of-digest.ensures.0 ∙ d.1.1 }
