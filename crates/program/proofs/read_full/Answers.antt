use Rattle.std.proofs.Common.{refl, [], ◌∷◌, rules}
use Rattle.octets.specs.Undivided.{Undivided}
use Rattle.program.proofs.Bytes.{consumes_more}
use Rattle.program.proofs.read_full.Code.Mir.{function}
use Rattle.program.proofs.read_full.Goals as goal

pub undivided : Undivided ("core::convert::AnyFrom::from" ∷ "core::result::ResultFromResidualErrResidual::from_residual" ∷ "core::result::ResultTry::branch" ∷ []) function
undivided = refl

pub loop-done-preserved : goal.loop-done-preserved
loop-done-preserved g c = (
  search rules,
  search rules,
  consumes_more _ _ _ c.loop-done.done _ c.in_ok-n.n c.loop-done.buf c.read.new.buf c.loop-done.invariant.0 c.in_ok-n.ensures.bound.0 c.loop-done.invariant.2 c.in_ok-n.ensures.bytes.0,
)
