-- `rush::write` meets its contract.
use mathlib.Core.List.{[], ◌∷◌}
use mathlib.Core.Path.{refl}
use Rattle.octets.specs.Undivided.{Undivided}
use Rattle.rush.proofs.write.Code.Mir.{function}

pub undivided : Undivided ("program::write_out" ∷ []) function
undivided = refl
