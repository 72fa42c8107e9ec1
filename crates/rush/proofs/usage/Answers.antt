use Rattle.std.proofs.Common.{refl, [], ◌∷◌}
use Rattle.octets.specs.Undivided.{Undivided}
use Rattle.rush.proofs.usage.Code.Mir.{function}

pub undivided : Undivided ("program::write_out" ∷ []) function
undivided = refl
