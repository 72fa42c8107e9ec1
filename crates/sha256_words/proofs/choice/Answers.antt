-- `sha256_words::choice` meets its contract.
use Rattle.sha256.proofs.Choice.{choice-is}
use Rattle.sha256_words.proofs.choice.Goals as goal

pub returns : goal.returns
returns c = choice-is c.args.x c.args.y c.args.z c.ranges.x.fits c.ranges.y.fits c.ranges.z.fits
