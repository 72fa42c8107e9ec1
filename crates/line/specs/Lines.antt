-- Document 01, "The script program": the lines of a text.
use Rattle.std.specs.Prelude.{ℕ, List, [], ◌∷◌, ◌++◌}
use Rattle.line.specs.Fields.{parts_of}

-- a part after the last newline is a line unless it is empty
abbrev pub last_line : List ℕ → List (List ℕ)
last_line [] = []
last_line (b ∷ l) = (b ∷ l) ∷ []

-- the parts that newlines end, and the last line
abbrev pub ended_lines : List (List ℕ) → List (List ℕ)
ended_lines [] = []
ended_lines (p ∷ []) = last_line p
ended_lines (p ∷ q ∷ ps) = p ∷ ended_lines (q ∷ ps)

-- "the last may lack its newline"
abbrev pub lines_of : List ℕ → List (List ℕ)
lines_of text = ended_lines (parts_of 10 text)

-- the pieces of a text as one
unfoldable pub joined : List (List ℕ) → List ℕ
joined [] = []
joined (x ∷ xs) = x ++ joined xs
