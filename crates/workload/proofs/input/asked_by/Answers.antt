-- `workload::input::asked_by` meets its contract.
use Rattle.std.proofs.Common.{arith}
use Rattle.workload.proofs.AskedLaws.{other-count, no-seed, a-script}
use mathlib.Core.List.{[]}
use mathlib.Core.Path.{refl}
use Rattle.octets.specs.Undivided.{Undivided}
use Rattle.workload.proofs.input.asked_by.Code.Mir.{function}
use Rattle.workload.proofs.input.asked_by.Goals as goal

pub undivided : Undivided [] function
undivided = refl

pub returns-then-count-lt1 : goal.returns-then-count-lt1
returns-then-count-lt1 c = other-count c.args.seed c.args.count c.then-count-lt1.either

pub returns-then-seed-eq0 : goal.returns-then-seed-eq0
returns-then-seed-eq0 c = no-seed c.args.seed c.args.count (omega arith) (omega arith) c.if-seed-eq0.true

pub returns : goal.returns
returns c = a-script c.args.seed c.args.count (omega arith) (omega arith) c.if-seed-eq0.false
