-- `rush_cases::answer` is safe: the first piece has room.
use Rattle.std.proofs.Common.{◌≤◌, refl, sym, [], ◌∷◌, arith}
use lib.Seq.{length-take-le}
use Rattle.octets.specs.Undivided.{Undivided}
use Rattle.workload.specs.Text.{course}
use Rattle.workload.proofs.WholeRush.{begun-room}
use Rattle.rush_cases.proofs.answer.Code.Mir.{function}
use Rattle.rush_cases.proofs.answer.Goals as goal

pub undivided : Undivided ("core::convert::AnyFrom::from" ∷ "core::result::ResultFromResidualErrResidual::from_residual" ∷ "core::result::ResultTry::branch" ∷ "program::buffer" ∷ "workload_write::begin" ∷ "workload_write::fill" ∷ []) function
undivided = refl

pub slice_bounds-out-end : goal.slice_bounds-out-end
slice_bounds-out-end g c =
    let b = c.begin-first in
    let k : b.result.1 ≤ 22 = begun-room _ (course b.result.0 b.result.1) b.ensures.value in
    omega (arith, b.auto.out, c.buffer-out.ensures)

pub slice_bounds-write_all-end : goal.slice_bounds-write_all-end
slice_bounds-write_all-end g c =
    let b = c.begin-first in
    let k : b.result.1 ≤ 22 = begun-room _ (course b.result.0 b.result.1) b.ensures.value in
    sym (length-take-le b.result.1 b.new.out (omega (arith, b.auto.out, c.buffer-out.ensures)))
