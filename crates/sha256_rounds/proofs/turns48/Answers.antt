-- `sha256_rounds::turns48` meets its contract.
use Rattle.sha256_rounds.proofs.Schedule.{turns-join}
use Rattle.sha256_rounds.proofs.turns48.Goals as goal

pub returns : goal.returns
returns c = let p2 = turns-join 16 16 c.args.s0 0 c.turns16-s.ensures c.turns16-s-2.ensures in
    turns-join 32 16 c.args.s0 0 p2 c.turns16.ensures
