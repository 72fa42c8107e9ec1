-- `decimal::write::least_width` meets its contract.
use Rattle.std.proofs.Common.{[], refl}
use Rattle.octets.specs.Undivided.{Undivided}
use Rattle.decimal.proofs.write.least_width.Code.Mir.{function}

pub undivided : Undivided [] function
undivided = refl
