-- The numbers that a script is answered, line by line, by the script program's definition.
use Rattle.std.specs.Prelude.{ℕ, ◌≢◌, List, [], ◌∷◌}
use Rattle.line.specs.Command.{command_of, reserves_of}
use Rattle.script.specs.Answer.{answer_number}
use Rattle.script.specs.Script.{command_answer, table_after}

-- the second column of each answer
unfoldable pub answer_numbers : List ℕ → List (List ℕ) → List ℕ
answer_numbers table [] = []
answer_numbers table (l ∷ ls) = answer_number (command_answer table (command_of l) (reserves_of l)) ∷ answer_numbers (table_after table l) ls

-- none of the numbers of a bench that is not set up right: 1 torn, 2 no log, 8 counts, 15 line
abbrev pub Clear : ℕ → Type 0
Clear k = (k ≢ 1) × (k ≢ 2) × (k ≢ 8) × (k ≢ 15)

abbrev pub AllClear : List ℕ → Type 0
AllClear [] = Unit {0}
AllClear (k ∷ ks) = Clear k × AllClear ks
