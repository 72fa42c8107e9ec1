-- `rush::send` meets its contract: each turn writes a line at least.
use Rattle.std.proofs.Common.{refl, [], ◌∷◌, arith}
use Rattle.octets.specs.Undivided.{Undivided}
use Rattle.workload.specs.Text.{course}
use Rattle.workload.proofs.WholeRush.{fill-moves}
use Rattle.rush.proofs.send.Code.Mir.{function}
use Rattle.rush.proofs.send.Goals as goal

pub undivided : Undivided ("core::convert::AnyFrom::from" ∷ "core::result::ResultFromResidualErrResidual::from_residual" ∷ "core::result::ResultTry::branch" ∷ "rush::write" ∷ "workload_write::fill" ∷ []) function
undivided = refl

pub loop-script-smaller : goal.loop-script-smaller
loop-script-smaller g c =
    let l = c.loop-script in
    let f = c.fill-to in
    fill-moves l.out f.new.out l.script.seed l.script.count (course f.new.script f.result) f.ensures (omega (arith, l.invariant)) (omega arith)
