-- Document 02, [11]: "reads a seed and a line count from 1 to 10,000 as `seed,count`".
use Rattle.std.specs.Prelude.{ℕ, cond, ◌&&◌, List, [], ◌∷◌, ◌++◌, Option, None, Some, Result, Ok, Err, eqb, leb, length}
use Rattle.refusal.specs.Number.{number_of}
use Rattle.refusal.specs.declared.Refusal.{Refusal}
use Rattle.refusal.specs.declared.Refusal.TheVariants.{Line, Seed}
use Rattle.decimal.specs.Decimal.{decimal_of}
use Rattle.line.specs.Fields.{fields_of, numbers_of}
use Rattle.line.specs.Lines.{lines_of}
use Rattle.workload.specs.declared.Script.{Script}
use Rattle.workload.specs.Text.{Course, format_line, script_text}

-- a script, or a refusal
abbrev pub Asked : Type 0
Asked = Result Script Refusal

abbrev pub script : ℕ → ℕ → Asked
script seed count = Ok (record { seed = seed; count = count })

-- "Turned away: 19 "seed", a seed of 0, tested after 15"
unfoldable pub asked_by : ℕ → ℕ → Asked
asked_by seed count = cond (leb 1 count && leb count 10000) (cond (eqb seed 0) (Err Seed) (script seed count)) (Err Line)

-- two numbers
abbrev pub of_numbers : Option (List ℕ) → Asked
of_numbers None = Err Line
of_numbers (Some []) = Err Line
of_numbers (Some (a ∷ [])) = Err Line
of_numbers (Some (a ∷ b ∷ [])) = asked_by a b
of_numbers (Some (a ∷ b ∷ c ∷ ns)) = Err Line

-- a line, "by 01's rules for lines"
unfoldable pub of_line : List ℕ → Asked
of_line l = cond (leb (length l) 200) (of_numbers (numbers_of (fields_of l))) (Err Line)

-- "Any input but one such line .. gives 15"
abbrev pub of_lines : List (List ℕ) → Asked
of_lines [] = Err Line
of_lines (l ∷ []) = of_line l
of_lines (l ∷ m ∷ ls) = Err Line

unfoldable pub asked_of : List ℕ → Asked
asked_of text = of_lines (lines_of text)

-- "a refusal is written as its number alone on a line"
abbrev pub text_of : Asked → List ℕ
text_of (Ok s) = script_text s.seed s.count
text_of (Err why) = decimal_of (number_of why) ++ (10 ∷ [])

-- all that is written for an input
unfoldable pub rush_text : List ℕ → List ℕ
rush_text text = text_of (asked_of text)

-- ---- in pieces

-- what is written first
abbrev pub first_text : Asked → List ℕ
first_text (Ok s) = format_line ++ (10 ∷ [])
first_text (Err why) = decimal_of (number_of why) ++ (10 ∷ [])

-- and the lines that follow it
abbrev pub course_of : Asked → Course
course_of (Ok s) = record { state = s.seed; left = s.count; to = length (first_text (Ok s)) }
course_of (Err why) = record { state = 0; left = 0; to = length (first_text (Err why)) }
