-- `line_fields::find` meets its contract.
use mathlib.Core.List.{[]}
use mathlib.Core.Path.{refl}
use native.Mathlib.Omega.{arith}
use Rattle.line.proofs.FieldLaws.{first-comma, first_more, first-none}
use Rattle.octets.specs.Undivided.{Undivided}
use Rattle.line_fields.proofs.find.Code.Mir.{function}
use Rattle.line_fields.proofs.find.Goals as goal

pub undivided : Undivided [] function
undivided = refl

pub returns-then-b-mark : goal.returns-then-b-mark
returns-then-b-mark c = (omega (arith, c.loop-i.invariant, first-comma c.args.mark c.args.s.now c.loop-i.i (omega arith) c.if-b-mark.true), omega arith)

pub loop-i-preserved : goal.loop-i-preserved
loop-i-preserved c = omega (arith, c.loop-i.invariant, first_more c.args.mark c.args.s.now c.loop-i.i (omega arith) c.if-b-mark.false)

pub returns : goal.returns
returns c = (omega (arith, c.loop-i.invariant, first-none c.args.mark c.args.s.now c.loop-i.i (omega arith)), omega arith)
