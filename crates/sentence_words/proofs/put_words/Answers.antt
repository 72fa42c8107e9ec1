-- `sentence_words::put_words` meets its contract.
use mathlib.Core.List.{[], ◌∷◌}
use mathlib.Core.Path.{refl}
use Rattle.octets.specs.Undivided.{Undivided}
use Rattle.sentence_words.proofs.put_words.Code.Mir.{function}

pub undivided : Undivided ("octets::put" ∷ []) function
undivided = refl
