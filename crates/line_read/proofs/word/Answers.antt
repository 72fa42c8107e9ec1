-- `line_read::word` meets its contract.
use Rattle.std.proofs.Common.{[], ◌∷◌, refl}
use Rattle.octets.specs.Undivided.{Undivided}
use Rattle.line_read.proofs.word.Code.Mir.{function}

pub undivided : Undivided ("octets::equal" ∷ []) function
undivided = refl
