-- `sentence_words::put_kind` meets its contract.
use mathlib.Core.List.{[], ◌∷◌}
use mathlib.Core.Path.{refl}
use Rattle.sentence.specs.Text.{ascii}
use Rattle.sentence.specs.Words.{word_at, kind_words}
use Rattle.sentence_words.proofs.PieceLaws.{wrote_as, kind-told, kind-wrote}
use Rattle.octets.specs.Undivided.{Undivided}
use Rattle.sentence_words.proofs.put_kind.Code.Mir.{function}
use Rattle.sentence_words.proofs.put_kind.Goals as goal

pub undivided : Undivided ("sentence_words::put_number" ∷ "sentence_words::put_words" ∷ "sentence_words::words::kind_word" ∷ []) function
undivided = refl

pub returns : goal.returns
unfolding ascii
returns c =
    let o = c.args.out.now in
    let kind = c.args.kind in
    let words = c.put_words-word in
    let word = wrote_as words.new.out c.kind_word.result.now (ascii (word_at kind_words kind)) words.result c.kind_word.ensures.word (c.put_words-to.ensures.value, c.put_words-to.ensures.out_after) in
    let short = kind-told words.new.out words.result kind kind refl word in
    let both = kind-wrote o c.args.at kind c.requires (words.ensures.value, words.ensures.out_after) short (c.put_number.ensures.value, c.put_number.ensures.out_after) in
    record { value = both.0; out_after = both.1 }
