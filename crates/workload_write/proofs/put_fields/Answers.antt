-- `workload_write::put_fields` meets its contract.
use mathlib.Core.List.{[], ◌∷◌}
use mathlib.Core.Path.{refl}
use Rattle.octets.specs.Undivided.{Undivided}
use Rattle.workload_write.proofs.put_fields.Code.Mir.{function}

pub undivided : Undivided ("workload_write::put_numbers" ∷ []) function
undivided = refl
