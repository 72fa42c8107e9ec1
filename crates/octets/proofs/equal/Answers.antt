-- `octets::equal` meets its contract.
use Rattle.octets.proofs.Same.{same_length, same_none, same_more, same-all}
use mathlib.Core.Path.{refl, sym, ◌∙◌}
use mathlib.Core.List.{[]}
use native.Mathlib.Omega.{arith}
use Rattle.octets.specs.Undivided.{Undivided}
use Rattle.octets.proofs.equal.Code.Mir.{function}
use Rattle.octets.proofs.equal.Goals as goal

pub undivided : Undivided [] function
undivided = refl

pub returns-then-a-b : goal.returns-then-a-b
returns-then-a-b c = sym (same_length c.args.a.now c.args.b.now c.if-a-b.true)

pub loop-i-init : goal.loop-i-init
loop-i-init c = same_none c.args.a.now c.args.b.now

pub loop-i-preserved : goal.loop-i-preserved
loop-i-preserved c = same_more c.args.a.now c.args.b.now c.loop-i.i c.loop-i.diff (omega arith) (omega arith) c.loop-i.invariant

pub returns : goal.returns
returns c = c.loop-i.invariant ∙ same-all c.args.a.now c.args.b.now c.loop-i.i (omega arith) (omega arith)
