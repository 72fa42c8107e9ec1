-- `script_cases::answers` meets its contract.
use mathlib.Core.List.{[], ◌∷◌}
use mathlib.Core.Path.{refl}
use Rattle.octets.specs.Undivided.{Undivided}
use Rattle.script_cases.proofs.answers.Code.Mir.{function}

pub undivided : Undivided ("program::buffer" ∷ "script_pieces::pieces::Script::feed" ∷ "script_pieces::pieces::Script::new" ∷ []) function
undivided = refl
