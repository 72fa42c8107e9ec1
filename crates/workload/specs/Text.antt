-- Document 02, [11]: "writes a script: first `format,4,32,1,0,0,0,0`, then that many lines".
use Rattle.std.specs.Prelude.{ℕ, zero, suc, ◌-◌, ◌+◌, ◌≤◌, ◌<◌, ◌≡◌, ◌⊎◌, List, [], ◌∷◌, ◌++◌, length, codes}
use Rattle.octets.specs.Octets.{splice}
use Rattle.decimal.specs.Decimal.{decimal_of}
use Rattle.workload.specs.declared.Draw.{Draw}
use Rattle.workload.specs.declared.Draw.TheVariants.{Append, Advance, Truncate, Lookup, End}
use Rattle.workload.specs.declared.Script.{Script}
use Rattle.workload.specs.Generator.{drawn, state_after}

-- each number after a comma
unfoldable pub numbers_text : List ℕ → List ℕ
numbers_text [] = []
numbers_text (n ∷ ns) = (44 ∷ decimal_of n) ++ numbers_text ns

-- the word of a call
abbrev pub word_text : Draw → List ℕ
word_text (Append log value) = codes "append"
word_text (Advance log position digest value) = codes "advance"
word_text (Truncate log position) = codes "truncate"
word_text (Lookup log position) = codes "lookup"
word_text (End log) = codes "end"

-- its fields, in document 01's order
abbrev pub fields_in : Draw → List ℕ
fields_in (Append log value) = log ∷ value ∷ []
fields_in (Advance log position digest value) = log ∷ position ∷ digest ∷ value ∷ []
fields_in (Truncate log position) = log ∷ position ∷ []
fields_in (Lookup log position) = log ∷ position ∷ []
fields_in (End log) = log ∷ []

unfoldable pub draw_line : Draw → List ℕ
draw_line d = word_text d ++ numbers_text (fields_in d)

-- so many lines from a state on, each with its newline
unfoldable pub lines_text : ℕ → ℕ → List ℕ
lines_text x zero = []
lines_text x (suc k) = (draw_line (drawn x).draw ++ (10 ∷ [])) ++ lines_text (drawn x).state k

-- the word format, and its numbers
unfoldable pub format_line : List ℕ
format_line = codes "format" ++ numbers_text (4 ∷ 32 ∷ 1 ∷ 0 ∷ 0 ∷ 0 ∷ 0 ∷ [])

unfoldable pub script_text : ℕ → ℕ → List ℕ
script_text seed n = (format_line ++ (10 ∷ [])) ++ lines_text seed n

-- ---- in pieces

-- a script that is written in pieces: the state and how many lines are left after a piece, and where the piece ends
pub record Course : Type 0 where
  pub state : ℕ
  pub left : ℕ
  pub to : ℕ

abbrev pub course : Script → ℕ → Course
course s to = record { state = s.seed; left = s.count; to = to }

-- as many of the lines that are left as find room become r's piece: a line is put while 55 bytes, the longest line's, are free. This says how many they are
-- (`WholeRush: fills_one`)
pub record Fills (out : List ℕ) (x k : ℕ) (out' : List ℕ) (r : Course) : Type 0 where
  pub few : r.left ≤ k
  pub state : r.state ≡ state_after x (k - r.left)
  pub place : r.to ≡ length (lines_text x (k - r.left))
  pub room : r.to ≤ length out
  pub text : out' ≡ splice out 0 (lines_text x (k - r.left))
  pub each : (j : ℕ) → j < k - r.left → length (lines_text x j) + 55 ≤ length out
  pub full : (r.left ≡ 0) ⊎ (length out < r.to + 55)

-- pieces that follow each other from a state on, to the last of so many lines
unfoldable pub Follow : ℕ → ℕ → List (List ℕ) → Type 0
Follow x k [] = k ≡ 0
Follow x k (p ∷ ps) = (j : ℕ) × (j ≤ k) × (p ≡ lines_text x j) × Follow (state_after x j) (k - j) ps
