-- `script_lines::tables::Table::new` meets its contract.
use Rattle.std.proofs.Common.{[], refl}
use Rattle.octets.specs.Undivided.{Undivided}
use Rattle.script_lines.proofs.tables.Table.new.Code.Mir.{function}

pub undivided : Undivided [] function
undivided = refl
