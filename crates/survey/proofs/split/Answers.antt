-- `survey::split` meets its contract. Assumes nothing.
use mathlib.Core.Path.{refl}
use Rattle.survey.specs.Packing.{survey_of, reading_of}
use Rattle.survey.proofs.split.Goals as goal

pub returns : goal.returns
unfolding survey_of reading_of
returns c = (refl, refl)
