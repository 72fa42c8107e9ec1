-- `sentence_words::put_number` meets its contract.
use mathlib.Core.List.{[], ◌∷◌}
use mathlib.Core.Path.{refl}
use Rattle.sentence_words.proofs.PieceLaws.{wrote-number, number-room}
use Rattle.octets.specs.Undivided.{Undivided}
use Rattle.sentence_words.proofs.put_number.Code.Mir.{function}
use Rattle.sentence_words.proofs.put_number.Goals as goal

pub undivided : Undivided ("decimal::write::put" ∷ "sentence_words::put_words" ∷ []) function
undivided = refl

pub put-requires : goal.put-requires
put-requires c = number-room c.args.out.now c.args.words.now c.args.n c.args.at (c.put_words-to.ensures.value, c.put_words-to.ensures.out_after) c.requires

pub returns : goal.returns
returns c = let both = wrote-number c.args.out.now c.args.words.now c.args.n c.args.at (c.put_words-to.ensures.value, c.put_words-to.ensures.out_after) c.requires (c.put.ensures.value, c.put.ensures.out_after) in record { value = both.0; out_after = both.1 }
