-- `sentence_words::Text::new` meets its contract.
use mathlib.Core.List.{[]}
use Rattle.std.proofs.Common.{refl, arith}
use Rattle.octets.specs.Undivided.{Undivided}
use Rattle.octets.specs.Octets.{zeros}
use Rattle.sentence_words.proofs.Text.new.Goals as goal
use Rattle.sentence_words.proofs.Text.new.Code.Mir.{function}

pub undivided : Undivided [] function
undivided = refl

pub invariant_of-result : goal.invariant_of-result
unfolding zeros
invariant_of-result c = (omega arith, refl)
