-- Document 01, "The script program": what a line says.
use Rattle.std.specs.Prelude.{ℕ, ◌+◌, cond, List, [], ◌∷◌, ◌++◌, Option, Some, None, codes, eqb, leb, length, get_or, take, drop}
use Rattle.octets.specs.Octets.{same, zeros}
use Rattle.line.specs.Fields.{fields_of, numbers_of}
use Rattle.line.specs.declared.Command.{Command}
use Rattle.line.specs.declared.Command.TheVariants.{Format, Append, Advance, Truncate, Lookup, End}
use Rattle.line.specs.declared.Word.{Word}
use Rattle.line.specs.declared.Word.TheVariants as word

-- the words
abbrev pub word_of : List ℕ → Option Word
word_of w =
    cond (same w (codes "format")) (Some word.Format)
    (cond (same w (codes "append")) (Some word.Append)
    (cond (same w (codes "advance")) (Some word.Advance)
    (cond (same w (codes "truncate")) (Some word.Truncate)
    (cond (same w (codes "lookup")) (Some word.Lookup)
    (cond (same w (codes "end")) (Some word.End) None)))))

-- the first k of some numbers, zeros where there are fewer
unfoldable pub padded : ℕ → List ℕ → List ℕ
padded k ns = take k (ns ++ zeros k)

-- a command where exactly so many of n numbers are wanted
abbrev pub taking : ℕ → ℕ → Command → Option Command
taking k n c = cond (eqb n k) (Some c) None

-- the fields of each command, in document 01's order, where n numbers v are given; request [5]: "G reserves follow the keeper number, otherwise 15"
abbrev pub made : Word → ℕ → List ℕ → Option Command
made word.Format n v = taking (3 + get_or v 0 0) n (Format (get_or v 0 0) (get_or v 1 0) (get_or v 2 0) (padded 16 (drop 3 v)))
made word.Append n v = taking 2 n (Append (get_or v 0 0) (get_or v 1 0))
made word.Advance n v = taking 4 n (Advance (get_or v 0 0) (get_or v 1 0) (get_or v 2 0) (get_or v 3 0))
made word.Truncate n v = taking 2 n (Truncate (get_or v 0 0) (get_or v 1 0))
made word.Lookup n v = taking 2 n (Lookup (get_or v 0 0) (get_or v 1 0))
made word.End n v = taking 1 n (End (get_or v 0 0))

-- the command of a word and of numbers, if they are
abbrev pub of_numbers : Option Word → Option (List ℕ) → Option Command
of_numbers w None = None
of_numbers None (Some ns) = None
of_numbers (Some w) (Some ns) = made w (length ns) ns

-- the first field is the word, the others are its numbers
abbrev pub of_fields : List (List ℕ) → Option Command
of_fields [] = None
of_fields (w ∷ fs) = of_numbers (word_of w) (numbers_of fs)

-- the command of a line of at most 200 bytes
unfoldable pub command_of : List ℕ → Option Command
command_of l = cond (leb (length l) 200) (of_fields (fields_of l)) None

-- ---- the reserves of a format

-- those of a command with these numbers: all that follow the keeper number
abbrev pub reserves_in : Option Command → List ℕ → List ℕ
reserves_in (Some (Format logs slots keeper reserves)) ns = drop 3 ns
reserves_in (Some (Append log value)) ns = []
reserves_in (Some (Advance log position digest value)) ns = []
reserves_in (Some (Truncate log position)) ns = []
reserves_in (Some (Lookup log position)) ns = []
reserves_in (Some (End log)) ns = []
reserves_in None ns = []

-- the numbers after the first field, if they are
abbrev pub numbers_in : List (List ℕ) → List ℕ
numbers_in [] = []
numbers_in (w ∷ fs) = elim (numbers_of fs) [ None ↦ [] | Some ns ↦ ns ]

-- the reserves of a line, as many as there are
unfoldable pub reserves_of : List ℕ → List ℕ
reserves_of l = reserves_in (command_of l) (numbers_in (fields_of l))

-- ---- as the functions give it

-- how many numbers, if they are
abbrev pub count_of : Option (List ℕ) → Option ℕ
count_of None = None
count_of (Some ns) = Some (length ns)
