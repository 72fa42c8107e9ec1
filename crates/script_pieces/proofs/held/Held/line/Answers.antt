-- `script_pieces::held::Held::line` meets its contract.
use Rattle.std.proofs.Common.{[], refl}
use Rattle.octets.specs.Undivided.{Undivided}
use Rattle.script_pieces.proofs.held.Held.line.Code.Mir.{function}

pub undivided : Undivided [] function
undivided = refl
