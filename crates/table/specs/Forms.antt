-- Layouts of tables: what the walks take of an image that bytes say.
use Rattle.std.specs.Prelude.{ℕ, ◌≡◌, ◌≤◌, ◌<◌, List, length}
use Rattle.octets.specs.Octets.{Bytes}
use Rattle.layout.specs.Image.{Image, row_at}
use Rattle.layout.specs.Fits.{CountedIn}
use Rattle.layout.specs.Layout.{Plan, row_offset_in, row_offset}
use Rattle.layout.specs.Strict.{strict_from}

-- an image of so many logs, no more than 800 slots, and reserves of two bytes
pub record Modest (m : Image) (logs : ℕ) : Type 0 where
  pub rows : length m.rows ≡ logs
  pub slots : length m.slots ≤ 800
  pub reserves : (g : ℕ) → (row_at m.rows g).reserve < 65536

-- in no layout do the slots start later than in the present one; bytes of a layout say an image: its slots stand behind the rows, each read with its zero byte
pub record FormLaws (p : Plan) (image : List ℕ → Image) : Type 0 where
  pub near : (logs : ℕ) → logs ≤ 16 → row_offset_in p logs ≤ row_offset logs
  pub slots : (b : List ℕ) (logs slots : ℕ) → CountedIn p b logs slots → strict_from b (row_offset_in p logs) slots ≡ (image b).slots
  pub modest : (b : List ℕ) (logs slots : ℕ) → Bytes b → CountedIn p b logs slots → Modest (image b) logs
