-- `sentence_write::sentences::beginning` meets its contract.
use Rattle.std.proofs.Common.{refl}
use Rattle.sentence.specs.Text.{ascii}
use mathlib.Core.List.{[]}
use Rattle.octets.specs.Undivided.{Undivided}
use Rattle.sentence_write.proofs.sentences.beginning.Code.Mir.{function}
use Rattle.sentence_write.proofs.sentences.beginning.Goals as goal

pub undivided : Undivided [] function
undivided = refl

pub returns-in-Receipt-clause-words : goal.returns-in-Receipt-clause-words
unfolding ascii
returns-in-Receipt-clause-words c = rw c.in-Receipt.is refl

pub returns-in-Certificate-clause-words : goal.returns-in-Certificate-clause-words
unfolding ascii
returns-in-Certificate-clause-words c = rw c.in-Certificate.is refl
