-- `sha256_rounds::rounds16` meets its contract.
use Rattle.sha256_rounds.proofs.Schedule.{rounds-join}
use Rattle.sha256_rounds.proofs.rounds16.Goals as goal

pub returns : goal.returns
returns c = let p2 = rounds-join 2 2 c.args.v c.args.w.now 0 c.rounds2-v.ensures c.rounds2-v-2.ensures in
    let p3 = rounds-join 4 2 c.args.v c.args.w.now 0 p2 c.rounds2-v-3.ensures in
    let p4 = rounds-join 6 2 c.args.v c.args.w.now 0 p3 c.rounds2-v-4.ensures in
    let p5 = rounds-join 8 2 c.args.v c.args.w.now 0 p4 c.rounds2-v-5.ensures in
    let p6 = rounds-join 10 2 c.args.v c.args.w.now 0 p5 c.rounds2-v-6.ensures in
    let p7 = rounds-join 12 2 c.args.v c.args.w.now 0 p6 c.rounds2-v-7.ensures in
    rounds-join 14 2 c.args.v c.args.w.now 0 p7 c.rounds2.ensures
