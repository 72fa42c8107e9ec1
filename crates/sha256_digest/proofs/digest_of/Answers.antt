-- `sha256_digest::digest_of` meets its contract.
use Rattle.sha256_digest.proofs.Absorbed.{digest-is, from_initial}
use Rattle.sha256_digest.proofs.digest_of.Goals as goal

pub returns : goal.returns
returns c = digest-is c.args.message.now _ c.digest_from.result (from_initial c.initial.result c.args.message.now c.initial.ensures) c.digest_from.ensures
