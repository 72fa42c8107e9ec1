-- `survey::last_reading` meets its contract. Assumes nothing.
use mathlib.Core.Path.{refl}
use Rattle.survey.specs.Packing.{last_reading}
use Rattle.survey.proofs.last_reading.Goals as goal

pub returns : goal.returns
unfolding last_reading
returns c = refl
