-- `script_lines::tables::Table::bytes` meets its contract.
use Rattle.std.proofs.Common.{[], ◌∷◌, refl}
use Rattle.octets.specs.Undivided.{Undivided}
use Rattle.script_lines.proofs.tables.Table.bytes.Code.Mir.{function}

pub undivided : Undivided ([]) function
undivided = refl
