-- `script_calls::placed` meets its contract.
use Rattle.std.proofs.Common.{[], ◌∷◌, refl, ◌∙◌}
use Rattle.octets.specs.Octets.{zeros}
use Rattle.script.proofs.AnswerLaws.{placed-bytes}
use Rattle.octets.specs.Undivided.{Undivided}
use Rattle.script_calls.proofs.placed.Code.Mir.{function}
use Rattle.script_calls.proofs.placed.Goals as goal

pub undivided : Undivided ("bigendian::put_number" ∷ []) function
undivided = refl

pub returns : goal.returns
unfolding zeros
returns c = c.put_number.ensures ∙ placed-bytes c.args.n
