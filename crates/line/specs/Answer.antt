-- Document 01, "The script program": an answer line.
use Rattle.std.specs.Prelude.{ℕ, List, [], ◌∷◌, ◌++◌}
use Rattle.decimal.specs.Decimal.{decimal_of}
use Rattle.line.specs.declared.Cell.{Cell}
use Rattle.line.specs.declared.Cell.TheVariants.{Dash, Number, Letter}

-- "a dash where there is none"
abbrev pub cell_text : Cell → List ℕ
cell_text Dash = 45 ∷ []
cell_text (Number n) = decimal_of n
cell_text (Letter b) = b ∷ []

-- a comma where cells follow, else the newline
abbrev pub mark : List Cell → ℕ
mark [] = 10
mark (c ∷ cs) = 44

-- each cell with its mark
unfoldable pub line_text : List Cell → List ℕ
line_text [] = []
line_text (c ∷ cs) = (cell_text c ++ (mark cs ∷ [])) ++ line_text cs
