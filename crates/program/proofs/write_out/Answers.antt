use Rattle.std.proofs.Common.{refl, [], ◌∷◌, rules}
use Rattle.octets.specs.Undivided.{Undivided}
use Rattle.program.proofs.Bytes.{appends_more}
use Rattle.program.proofs.write_out.Code.Mir.{function}
use Rattle.program.proofs.write_out.Goals as goal

pub undivided : Undivided ("std_io::io::error::Error::from_raw_os_error" ∷ []) function
undivided = refl

pub loop-done-preserved : goal.loop-done-preserved
loop-done-preserved g c = (search rules, appends_more _ _ _ c.args.bytes.now c.loop-done.done c.in-Ok.n c.loop-done.invariant.1 c.in-Ok.ensures.bytes)
