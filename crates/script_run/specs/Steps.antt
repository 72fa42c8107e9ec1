-- What holds from read to read.
use Rattle.std.specs.Prelude.{ℕ, ◌+◌, ◌≤◌, ◌<◌, ◌^◌, ◌≡◌, Bool, true, false, List, [], ◌∷◌, ◌++◌, Option, Result, Ok, Err, length, take, codes}
use Rattle.std.specs.Io.KnownBytes.{Appends, Consumes, IsAtEnd}
use Rattle.line.specs.Lines.{lines_of}
use Rattle.script.specs.Stream.{answers_of, held_after, newlines, answered, table_read, Feeds, After}
use Rattle.script_pieces.specs.declared.pieces.Script.{Script}
use Rattle.script_run.specs.declared.ending.Ending.{Ending}
use Rattle.script_run.specs.declared.ending.Ending.TheVariants.{Unread, Unwritten}

-- room for the answers to a piece, and numbers for more lines
pub record Ready (s : Script) (out : List ℕ) : Type 0 where
  pub room : length out ≡ 1376256
  pub numbers : s.number ≤ 2 ^ 63

-- of these answers, from line `first` on, some bytes were written, and not all: line n is the first that was not wholly written, since
-- each answer ends with its only newline
abbrev pub Missing : List ℕ → ℕ → ℕ → Type 0
Missing answers first n = (done : ℕ) × (done < length answers) × (n ≡ first + newlines (take done answers))

-- a piece was answered, and its answers are written, or some are missing
abbrev pub Answers : Result Unit Ending → List ℕ → Script → List ℕ → Script → List ℕ → Type 0
Answers (Ok u) piece s out s' out' = (to : ℕ) × Feeds piece s.table s.held s.number out s'.table s'.held s'.number out' to
Answers (Err (Unwritten n why)) piece s out s' out' = Missing (answered s.table s.held s.number piece) s.number n
Answers (Err (Unread why)) piece s out s' out' = ⊥

-- the answers to a piece that follows the bytes read
abbrev pub answers_to : List ℕ → List ℕ → List ℕ
answers_to read piece = answered (table_read [] [] read) (held_after [] read) (1 + newlines read) piece

-- the answers to a piece, or the first bytes of them where not all were written, went to a writer that had o and has o'
abbrev pub Writes : Result Unit Ending → List ℕ → Option (List ℕ) → Option (List ℕ) → Type 0
Writes (Ok u) answers o o' = Appends o o' answers
Writes (Err e) answers o o' = (k : ℕ) × Appends o o' (take k answers)

-- after the bytes read the script ends: the state is theirs, and none follow; or a read failed; or the answers to the piece after them were not all written
abbrev pub Ends : Result Unit Ending → List ℕ → Script → Option (List ℕ) → Option (List ℕ) → Option (List ℕ) → Option (List ℕ) → Type 0
Ends (Ok u) read s i i' o o' = After read s.table s.held s.number × Consumes i i' [] × IsAtEnd i' × Appends o o' []
Ends (Err (Unread why)) read s i i' o o' = Consumes i i' [] × Appends o o' []
Ends (Err (Unwritten n why)) read s i i' o o' = (piece : List ℕ) × Missing (answers_to read piece) (1 + newlines read) n × Consumes i i' piece × ((k : ℕ) × Appends o o' (take k (answers_to read piece)))

-- after the bytes read a piece was read and answered, or the script ended
abbrev pub Stepped : Result Bool Ending → List ℕ → Script → List ℕ → Option (List ℕ) → Option (List ℕ) → Option (List ℕ) → Option (List ℕ) → Type 0
Stepped (Ok true) read s out i i' o o' = (piece : List ℕ) × (length piece ≤ 8192) × After (read ++ piece) s.table s.held s.number × (take (length (answers_to read piece)) out ≡ answers_to read piece) × Consumes i i' piece × Appends o o' (answers_to read piece)
Stepped (Ok false) read s out i i' o o' = Ends (Ok tt) read s i i' o o'
Stepped (Err e) read s out i i' o o' = Ends (Err e) read s i i' o o'

-- whatever was read before, with a reader that has i, and then i', and a writer
abbrev pub Steps : Result Bool Ending → Script → Script → List ℕ → Option (List ℕ) → Option (List ℕ) → Option (List ℕ) → Option (List ℕ) → Type 0
Steps r s s' out' i i' o o' = (read : List ℕ) → After read s.table s.held s.number → Stepped r read s' out' i i' o o'

-- the script ended after some bytes, those that the reader gave: the writer has the answers to the lines that end in them, or the first bytes of these
abbrev pub Ended : Result Unit Ending → Script → Option (List ℕ) → Option (List ℕ) → Option (List ℕ) → Option (List ℕ) → Type 0
Ended (Ok u) s i i' o o' = (read : List ℕ) × After read s.table s.held s.number × Consumes i i' read × IsAtEnd i' × Appends o o' (answered [] [] 1 read)
Ended (Err (Unread why)) s i i' o o' = (read : List ℕ) × Consumes i i' read × Appends o o' (answered [] [] 1 read)
Ended (Err (Unwritten n why)) s i i' o o' = (read : List ℕ) × (piece : List ℕ) × Missing (answers_to read piece) (1 + newlines read) n × Consumes i i' (read ++ piece) × ((k : ℕ) × Appends o o' (take k (answered [] [] 1 (read ++ piece))))

-- the state is that after some bytes
abbrev pub AfterSome : Script → Type 0
AfterSome s = (read : List ℕ) × After read s.table s.held s.number

-- document 01: the heading of the answers
abbrev pub heading : List ℕ
heading = codes "line,answer,kind,position,reference,value,low,high" ++ (10 ∷ [])

-- what a writer got is the heading and the answers to the lines of what a reader gave, or the first bytes of these
abbrev pub Ran : Option (List ℕ) → Option (List ℕ) → Option (List ℕ) → Option (List ℕ) → Type 0
Ran i i' o o' = (read : List ℕ) × Consumes i i' read × ((k : ℕ) × Appends o o' (take k (heading ++ answers_of [] 1 (lines_of read))))
