-- `script_pieces::pieces::Script::new` meets its contract.
use Rattle.std.proofs.Common.{[], ◌∷◌, refl}
use Rattle.octets.specs.Undivided.{Undivided}
use Rattle.script_pieces.proofs.pieces.Script.new.Code.Mir.{function}

pub undivided : Undivided ("script_lines::tables::Table::new" ∷ "script_pieces::held::Held::new" ∷ []) function
undivided = refl
