-- `sentence_words::Text::reason` meets its contract.
use mathlib.Core.List.{[], ◌∷◌}
use mathlib.Core.Path.{refl}
use Rattle.octets.specs.Undivided.{Undivided}
use Rattle.sentence_words.proofs.Text.reason.Code.Mir.{function}

pub undivided : Undivided ("sentence_words::Text::words" ∷ "sentence_words::words::reason_words" ∷ []) function
undivided = refl
