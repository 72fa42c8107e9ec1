-- Document 01, "The script program": a script of any length, read in pieces.
use Rattle.std.specs.Prelude.{ℕ, suc, ◌+◌, ◌*◌, ◌≤◌, ◌≡◌, cond, List, [], ◌∷◌, ◌++◌, eqb, length, take}
use Rattle.octets.specs.Octets.{splice}
use Rattle.script.specs.Script.{answer_text, table_after}

-- ---- a whole script

-- the answers to lines that are numbered from n on
unfoldable pub answers_of : List ℕ → ℕ → List (List ℕ) → List ℕ
answers_of table n [] = []
answers_of table n (l ∷ ls) = answer_text table n l ++ answers_of (table_after table l) (suc n) ls

-- ---- in pieces: of an unfinished line the first 201 bytes are held, since a line of more than 200 is no command

-- the bytes of a line that are held
abbrev pub cut : List ℕ → List ℕ
cut l = take 201 l

-- what is held after more bytes
unfoldable pub held_after : List ℕ → List ℕ → List ℕ
held_after h [] = h
held_after h (b ∷ l) = cond (eqb b 10) (held_after [] l) (held_after (cut (h ++ (b ∷ []))) l)

-- the lines that end in them
unfoldable pub newlines : List ℕ → ℕ
newlines [] = 0
newlines (b ∷ l) = cond (eqb b 10) (suc (newlines l)) (newlines l)

-- and their answers
unfoldable pub answered : List ℕ → List ℕ → ℕ → List ℕ → List ℕ
answered table h n [] = []
answered table h n (b ∷ l) = cond (eqb b 10) (answer_text table n h ++ answered (table_after table h) [] (suc n) l) (answered table (cut (h ++ (b ∷ []))) n l)

-- and the table after them
unfoldable pub table_read : List ℕ → List ℕ → List ℕ → List ℕ
table_read table h [] = table
table_read table h (b ∷ l) = cond (eqb b 10) (table_read (table_after table h) [] l) (table_read table (cut (h ++ (b ∷ []))) l)

-- at the end of the script
abbrev pub last_answer : List ℕ → List ℕ → ℕ → List ℕ
last_answer table [] n = []
last_answer table (b ∷ l) n = answer_text table n (b ∷ l)

-- and the table after it
abbrev pub last_table : List ℕ → List ℕ → List ℕ
last_table table [] = table
last_table table (b ∷ l) = table_after table (b ∷ l)

-- what is answered to a script in pieces: to each piece, and at the end
unfoldable pub in_pieces : List ℕ → List ℕ → ℕ → List (List ℕ) → List ℕ
in_pieces table h n [] = last_answer table h n
in_pieces table h n (x ∷ xs) = answered table h n x ++ in_pieces (table_read table h x) (held_after h x) (n + newlines x) xs

-- ---- what the functions promise

-- a piece is answered: its answers stand at the start of out, up to a place, and the table, the bytes held and the number are those after it
pub record Feeds (piece table held : List ℕ) (number : ℕ) (out table' held' : List ℕ) (number' : ℕ) (out' : List ℕ) (to : ℕ) : Type 0 where
  pub few : number' ≤ number + length piece
  pub room : to ≤ 168 * length piece
  pub bytes : held' ≡ held_after held piece
  pub count : number' ≡ number + newlines piece
  pub calls : table' ≡ table_read table held piece
  pub place : to ≡ length (answered table held number piece)
  pub text : out' ≡ splice out 0 (answered table held number piece)

-- the end of the script: the answer to a last line that lacks its newline stands at the start of out
pub record Finishes (table held : List ℕ) (number : ℕ) (out table' out' : List ℕ) (to : ℕ) : Type 0 where
  pub room : to ≤ 168
  pub place : to ≡ length (last_answer table held number)
  pub text : out' ≡ splice out 0 (last_answer table held number)
  pub calls : table' ≡ last_table table held

-- the state of a script of which some bytes were read, from the first on
pub record After (read table held : List ℕ) (number : ℕ) : Type 0 where
  pub bytes : held ≡ held_after [] read
  pub count : number ≡ 1 + newlines read
  pub calls : table ≡ table_read [] [] read
