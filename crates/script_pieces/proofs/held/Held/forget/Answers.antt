-- `script_pieces::held::Held::forget` meets its contract.
use Rattle.std.proofs.Common.{[], refl}
use Rattle.octets.specs.Undivided.{Undivided}
use Rattle.script_pieces.proofs.held.Held.forget.Code.Mir.{function}

pub undivided : Undivided [] function
undivided = refl
