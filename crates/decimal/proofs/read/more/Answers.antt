-- `decimal::read::more` meets its contract.
use Rattle.std.proofs.Common.{[], refl}
use Rattle.octets.specs.Undivided.{Undivided}
use Rattle.decimal.proofs.read.more.Code.Mir.{function}

pub undivided : Undivided [] function
undivided = refl
