-- `script_lines::lines::cells` meets its contract.
use Rattle.std.proofs.Common.{[], refl}
use Rattle.octets.specs.Undivided.{Undivided}
use Rattle.script_lines.proofs.lines.cells.Code.Mir.{function}

pub undivided : Undivided [] function
undivided = refl
