-- An image that says what a model says, and a model that keeps its own rules.
use Prim.Native.Nat.{ℕ, suc, ◌+◌, ◌≤◌}
use mathlib.Core.Path.{◌≡◌}
use mathlib.Core.List.{List, [], ◌∷◌}
use lib.ListN.{length, replicate}
use Rattle.layout.specs.declared.Row.{Row}
use Rattle.layout.specs.Image.{Entry, Slot, Image, blank_entry, row_at}
use Rattle.table.specs.Chains.{last_of}
use Rattle.table.proofs.Links.{Holds}
use Rattle.model.specs.Log.{Log, last_entry}
use Rattle.model.specs.Model.{Model, log_at, total}

-- the row and the chain of log g say the log
pub record RowRep (slots : List Slot) (g : ℕ) (r : Row) (l : Log) : Type 0 where
  pub chain : List ℕ
  pub holds : Holds slots (suc g) r.first chain l.entries
  pub last : r.last ≡ last_of chain
  pub low : r.low ≡ l.low
  pub high : r.high ≡ l.high
  pub reserve : r.reserve ≡ l.reserve

-- the image says the model; its free chain is the queue, of blank slots
pub record Rep (m : Image) (b : Model) : Type 0 where
  pub keeper : m.keeper ≡ b.keeper
  pub key : m.key ≡ b.key
  pub count : length m.rows ≡ length b.logs
  pub size : length m.slots ≡ b.size
  pub rows : (g : ℕ) → RowRep m.slots g (row_at m.rows g) (log_at b.logs g)
  pub queue : List ℕ
  pub free : Holds m.slots 0 m.free queue (replicate (length queue) blank_entry)
  pub sum : length queue + total b.logs ≡ length m.slots

-- positions strictly rising from w
abbrev pub Rising : ℕ → List Entry → Type 0
Rising w [] = Unit {0}
Rising w (e ∷ es) = (w ≤ e.position) × Rising (suc e.position) es

-- fresh, or 1 ≤ low ≤ high with rising positions from low to high
pub record LogOk (l : Log) : Type 0 where
  pub low1 : 1 ≤ l.low
  pub rising : Rising l.low l.entries
  pub top : (last_entry l.entries).position ≡ l.high
  pub fresh : l.high ≡ 0 → l.low ≡ 1

abbrev pub Sound : Model → Type 0
Sound b = (g : ℕ) → LogOk (log_at b.logs g)
