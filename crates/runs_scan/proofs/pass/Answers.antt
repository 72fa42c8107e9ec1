-- `runs_scan::pass` meets its contract.
use Rattle.runs.specs.Lent.{whole}
use Rattle.runs.proofs.PassLaws.{pass-is}
use Rattle.runs_scan.proofs.pass.Goals as goal

pub returns : goal.returns
returns c = pass-is (whole c.args.one.now) (whole c.args.two.now) c.count-n1.result c.count-n2.result c.count-n1.ensures c.count-n2.ensures c.min-m.ensures c.in_step.ensures
