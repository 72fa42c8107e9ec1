-- `workload_write::word` meets its contract.
use mathlib.Core.List.{[]}
use mathlib.Core.Path.{refl}
use Rattle.octets.specs.Undivided.{Undivided}
use Rattle.workload_write.proofs.word.Code.Mir.{function}

pub undivided : Undivided [] function
undivided = refl
