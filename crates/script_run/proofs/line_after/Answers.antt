-- `script_run::line_after` meets its contract.
use Rattle.std.proofs.Common.{[], refl, arith}
use Rattle.script.proofs.StreamLaws.{newlines-end}
use Rattle.script_run.proofs.StepLaws.{counts-one, counts-none}
use Rattle.octets.specs.Undivided.{Undivided}
use Rattle.script_run.proofs.line_after.Code.Mir.{function}
use Rattle.script_run.proofs.line_after.Goals as goal
use Rattle.script_run.proofs.line_after.Goals.{then-b-eq10, else-b-eq10}

pub undivided : Undivided [] function
undivided = refl

pub loop-b-preserved : goal.loop-b-preserved
loop-b-preserved c =
    elim c.if-b-eq10.branch [
      | then-b-eq10 w ↦ counts-one c.args.answers.now c.args.first c.loop-b.n c.if-b-eq10.n c.loop-b.b-index (omega arith) c.loop-b.invariant.0 c.loop-b.invariant.1 w.if-b-eq10.true w.n-is
      | else-b-eq10 w ↦ counts-none c.args.answers.now c.args.first c.loop-b.n c.if-b-eq10.n c.loop-b.b-index (omega arith) c.loop-b.invariant.0 c.loop-b.invariant.1 w.if-b-eq10.false w.n-is
    ]

pub returns : goal.returns
returns c = omega (arith, c.loop-b.invariant.1, newlines-end c.args.answers.now c.loop-b.b-index (omega arith))
