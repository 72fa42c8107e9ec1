-- Document 01, "The script program": what a line is answered, and what it does to the table.
use Rattle.std.specs.Prelude.{ℕ, ◌≡◌, List, [], ◌∷◌, Option, Some, None, take}
use Rattle.std.proofs.Math.Option.{Option as Fault}
use Rattle.octets.specs.Octets.{zeros}
use Rattle.bigendian.specs.BigEndian.{placed}
use Rattle.refusal.specs.Order.{answer_of, afterwards}
use Rattle.layout.specs.Layout.{table_size}
use Rattle.table.specs.Free.{write_table}
use Rattle.table.specs.Format.{formatted, format_refusal}
use Rattle.a2m.specs.Call.{append, advance, truncate, lookup, end}
use Rattle.a2m.specs.TableCalls.{table_step}
use Rattle.line.specs.declared.Cell.{Cell}
use Rattle.line.specs.declared.Cell.TheVariants.{Dash, Number, Letter}
use Rattle.line.specs.declared.Command.{Command}
use Rattle.line.specs.declared.Command.TheVariants.{Format, Append, Advance, Truncate, Lookup, End}
use Rattle.line.specs.Command.{command_of, reserves_of}
use Rattle.line.specs.Answer.{line_text}
use Rattle.script.specs.declared.Answer.{Answer}
use Rattle.script.specs.declared.Answer.TheVariants.{Plain, Bounded, Attested}
use Rattle.script.specs.Answer.{call_answer}

-- "Fields of format: G, S, keeper", and the reserves of request [5]; the buffer has the size of that table, and "Key and nonce are zero"
abbrev pub format_fault : ℕ → ℕ → List ℕ → Fault ℕ
format_fault logs slots reserves = format_refusal (table_size logs slots) logs slots 32 reserves

-- the answer to a command, with the reserves of its line; a lent receipt has 160 bytes
unfoldable pub command_answer : List ℕ → Option Command → List ℕ → Answer
command_answer b (Some (Format logs slots keeper first)) reserves = Plain (answer_of (format_fault logs slots reserves))
command_answer b (Some (Append log value)) reserves = call_answer b (append log (placed value))
command_answer b (Some (Advance log position digest value)) reserves = call_answer b (advance log position (placed digest) (placed value))
command_answer b (Some (Truncate log position)) reserves = call_answer b (truncate log position)
command_answer b (Some (Lookup log position)) reserves = call_answer b (lookup log position (zeros 32) 160)
command_answer b (Some (End log)) reserves = call_answer b (end log (zeros 32) 160)
command_answer b None reserves = Plain 15

-- the table after it: a refused format leaves the old one
unfoldable pub command_table : List ℕ → Option Command → List ℕ → List ℕ
command_table b (Some (Format logs slots keeper first)) reserves = afterwards (format_fault logs slots reserves) (write_table (formatted slots keeper (zeros 32) reserves)) b
command_table b (Some (Append log value)) reserves = (table_step b (append log (placed value))).state
command_table b (Some (Advance log position digest value)) reserves = (table_step b (advance log position (placed digest) (placed value))).state
command_table b (Some (Truncate log position)) reserves = (table_step b (truncate log position)).state
command_table b (Some (Lookup log position)) reserves = (table_step b (lookup log position (zeros 32) 160)).state
command_table b (Some (End log)) reserves = (table_step b (end log (zeros 32) 160)).state
command_table b None reserves = b

-- "line number, answer, kind (U, A, S, F), position, reference, value, L, H after the call; a dash where there is none"
abbrev pub cells_of : ℕ → Answer → List Cell
cells_of n (Plain k) = Number n ∷ Number k ∷ Dash ∷ Dash ∷ Dash ∷ Dash ∷ Dash ∷ Dash ∷ []
cells_of n (Bounded k low high) = Number n ∷ Number k ∷ Dash ∷ Dash ∷ Dash ∷ Dash ∷ Number low ∷ Number high ∷ []
cells_of n (Attested kind position reference value low high) =
    Number n ∷ Number 0 ∷ Letter kind ∷ Number position ∷ Number reference ∷ Number value ∷ Number low ∷ Number high ∷ []

-- line n is answered by this text
unfoldable pub answer_text : List ℕ → ℕ → List ℕ → List ℕ
answer_text b n line = line_text (cells_of n (command_answer b (command_of line) (reserves_of line)))

-- and leaves this table; "before a format the table is torn": it is empty
unfoldable pub table_after : List ℕ → List ℕ → List ℕ
table_after b line = command_table b (command_of line) (reserves_of line)

-- of the 16 reserves that a format's command has, those of its logs
abbrev pub lent : Option Command → List ℕ
lent (Some (Format logs slots keeper first)) = take logs first
lent (Some (Append log value)) = []
lent (Some (Advance log position digest value)) = []
lent (Some (Truncate log position)) = []
lent (Some (Lookup log position)) = []
lent (Some (End log)) = []
lent None = []

-- a command turns a table: its answer, and the table after it
pub record Turns (b : List ℕ) (command : Option Command) (reserves b' : List ℕ) (r : Answer) : Type 0 where
  pub answer : r ≡ command_answer b command reserves
  pub table : b' ≡ command_table b command reserves
