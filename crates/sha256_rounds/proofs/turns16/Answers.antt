-- `sha256_rounds::turns16` meets its contract.
use Rattle.std.proofs.Common.{ℕ}
use Rattle.sha256_rounds.proofs.Schedule.{turns-join}
use Rattle.sha256_rounds.proofs.turns16.Goals as goal

pub returns : goal.returns
returns g c = let t : ℕ = g.row.T in
    let p2 = turns-join 2 2 c.args.s t c.turns2-s.ensures c.turns2-s-2.ensures in
    let p3 = turns-join 4 2 c.args.s t p2 c.turns2-s-3.ensures in
    let p4 = turns-join 6 2 c.args.s t p3 c.turns2-s-4.ensures in
    let p5 = turns-join 8 2 c.args.s t p4 c.turns2-s-5.ensures in
    let p6 = turns-join 10 2 c.args.s t p5 c.turns2-s-6.ensures in
    let p7 = turns-join 12 2 c.args.s t p6 c.turns2-s-7.ensures in
    turns-join 14 2 c.args.s t p7 c.turns2.ensures
