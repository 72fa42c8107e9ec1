-- `sha256_words::majority` meets its contract.
use Rattle.sha256.proofs.Majority.{majority-is}
use Rattle.sha256_words.proofs.majority.Goals as goal

pub returns : goal.returns
returns c = majority-is c.args.x c.args.y c.args.z c.ranges.x.fits c.ranges.y.fits c.ranges.z.fits
