-- `line_read::following` meets its contract.
use Rattle.std.proofs.Common.{[], refl, arith}
use Rattle.std.proofs.Math.ListN.{length-set}
use Rattle.line.proofs.CommandLaws.{following-more, following-all}
use Rattle.octets.specs.Undivided.{Undivided}
use Rattle.line_read.proofs.following.Code.Mir.{function}
use Rattle.line_read.proofs.following.Goals as goal

pub undivided : Undivided [] function
undivided = refl

pub loop-i-preserved : goal.loop-i-preserved
loop-i-preserved c = (simp length-set (omega arith), following-more c.args.v.now c.loop-i.r c.loop-i.i (omega arith) (omega arith) c.loop-i.invariant.1)

pub returns : goal.returns
returns c = following-all c.args.v.now c.loop-i.r c.loop-i.i (omega arith) (omega arith) c.loop-i.invariant.1
