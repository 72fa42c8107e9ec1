use mathlib.Core.Path.{refl}
use mathlib.Core.List.{[], ◌∷◌}
use Rattle.octets.specs.Undivided.{Undivided}
use Rattle.printing.proofs.pair.Code.Mir.{function}

pub undivided : Undivided ("printing::digit" ∷ []) function
undivided = refl
