-- Texts of words and numbers, and the numbers that a text shows.
use Rattle.std.specs.Prelude.{ℕ, ◌+◌, ◌*◌, ◌-◌, cond, List, [], ◌∷◌, ◌++◌}
use Prim.Native.Char.{code}
use Prim.Native.String.{String, [] as empty, ◌∷◌ as ◌before◌}
use Rattle.std.proofs.Math.Option.{Option, none, some}
use Rattle.decimal.specs.Decimal.{decimal_of, is_digit}

-- the bytes of an ASCII text
unfoldable pub ascii : String → List ℕ
ascii empty = []
ascii (c before s) = code c ∷ ascii s

-- a piece of a sentence
pub data Piece : Type 0 where
  words : String → Piece
  number : ℕ → Piece

abbrev pub piece_text : Piece → List ℕ
piece_text (words s) = ascii s
piece_text (number n) = decimal_of n

unfoldable pub text_of : List Piece → List ℕ
text_of [] = []
text_of (p ∷ ps) = piece_text p ++ text_of ps

-- the numbers that stand in a text: its longest runs of digits; v is the number of a run that is not over
unfoldable pub numbers_from : Option ℕ → List ℕ → List ℕ
numbers_from none [] = []
numbers_from (some v) [] = v ∷ []
numbers_from none (b ∷ l) = cond (is_digit b) (numbers_from (some (b - 48)) l) (numbers_from none l)
numbers_from (some v) (b ∷ l) = cond (is_digit b) (numbers_from (some (v * 10 + (b - 48))) l) (v ∷ numbers_from none l)

abbrev pub numbers_in : List ℕ → List ℕ
numbers_in l = numbers_from none l
