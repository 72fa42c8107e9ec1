-- `script_run::ending::EndingFromIoError::from` meets its contract.
use Rattle.std.proofs.Common.{[], refl}
use Rattle.octets.specs.Undivided.{Undivided}
use Rattle.script_run.proofs.ending.EndingFromIoError.from.Code.Mir.{function}

pub undivided : Undivided [] function
undivided = refl
