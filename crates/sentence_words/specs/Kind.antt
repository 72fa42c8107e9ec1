-- What a sentence says of a kind.
use Rattle.std.specs.Prelude.{ℕ, List, ◌++◌}
use Rattle.decimal.specs.Decimal.{decimal_of}
use Rattle.sentence.specs.Text.{ascii}
use Rattle.sentence.specs.Words.{word_at, kind_words}

-- a kind's word and number
unfoldable pub kind_text : ℕ → List ℕ
kind_text kind = ascii " is " ++ (ascii (word_at kind_words kind) ++ (ascii " (kind " ++ decimal_of kind))
