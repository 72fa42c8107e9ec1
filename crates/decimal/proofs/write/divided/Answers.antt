-- `decimal::write::divided` meets its contract.
use Rattle.std.proofs.Common.{[], ◌∷◌, refl}
use Rattle.decimal.proofs.Laws.{parted}
use Rattle.octets.specs.Undivided.{Undivided}
use Rattle.decimal.proofs.write.divided.Code.Mir.{function}
use Rattle.decimal.proofs.write.divided.Goals as goal

pub undivided : Undivided ("decimal::write::often" ∷ []) function
undivided = refl

pub returns : goal.returns
returns c = parted c.args.n c.args.p c.often-fours.result c.often-ones.result c.requires.0 c.often-fours.ensures c.often-ones.ensures
