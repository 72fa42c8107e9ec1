-- When an image's numbers and lists fit their fields, and when bytes have a table's length and constants: then one determines the other.
use Rattle.std.specs.Prelude.{ℕ, ◌+◌, ◌*◌, ◌^◌, ◌≤◌, ◌<◌, ◌≡◌, List, length, get_or}
use Rattle.octets.specs.Octets.{part, zeros}
use Rattle.layout.specs.declared.Row.{Row}
use Rattle.layout.specs.Image.{Slot, Image, row_at, free_slot}
use Rattle.layout.specs.Layout.{Plan, plan01, plan, Stock, mark, zero_offset, slot_size, logs_of, slots_of, table_size, pad_offset, cell_offset_in}

-- the row's numbers fit their fields
pub record RowFits (r : Row) : Type 0 where
  pub low : r.low < 256 ^ 8
  pub high : r.high < 256 ^ 8
  pub first : r.first < 256 ^ 2
  pub last : r.last < 256 ^ 2
  pub reserve : r.reserve < 256 ^ 2

-- the slot's numbers and lists fit their fields
pub record SlotFits (s : Slot) : Type 0 where
  pub owner : s.owner < 256 ^ 1
  pub next : s.next < 256 ^ 2
  pub position : s.position < 256 ^ 8
  pub value : length s.value ≡ 32
  pub digest : length s.digest ≡ 32

-- the image's numbers and lists fit their fields
pub record Fits (m : Image) : Type 0 where
  pub logs : length m.rows < 256 ^ 1
  pub count : length m.slots < 256 ^ 2
  pub keeper : m.keeper < 256 ^ 8
  pub free : m.free < 256 ^ 2
  pub key : length m.key ≡ 32
  pub rows : (g : ℕ) → RowFits (row_at m.rows g)
  pub slots : (i : ℕ) → SlotFits (get_or m.slots i (free_slot 0))

-- no log has a reserve, as in document 01
abbrev pub Unreserved : Image → Type 0
Unreserved m = (g : ℕ) → (row_at m.rows g).reserve ≡ 0

-- the number of free slots and the last one fit their fields
pub record StockFits (k : Stock) : Type 0 where
  pub count : k.count < 256 ^ 2
  pub last : k.last < 256 ^ 2

-- document 01: "the length, constants and counts are as above", as far as a table's bytes follow from its image and stock
pub record Formed (b : List ℕ) : Type 0 where
  pub marked : part b 0 4 ≡ mark
  pub zero : part b zero_offset 1 ≡ zeros 1
  pub pads : (i : ℕ) → i < slots_of b → part b (pad_offset (logs_of b) i) 1 ≡ zeros 1
  pub sized : length b ≡ table_size (logs_of b) (slots_of b)

-- "1 to 16 logs over one shared pool of 1 to 800 slots"
pub record Range (logs slots : ℕ) : Type 0 where
  pub logs-least : 1 ≤ logs
  pub logs-most : logs ≤ 16
  pub slots-least : 1 ≤ slots
  pub slots-most : slots ≤ 800

-- a table in a layout, of so many logs and slots, at most 16 and 800
pub record CountedIn (p : Plan) (b : List ℕ) (logs slots : ℕ) : Type 0 where
  pub logs-are : logs ≡ logs_of b
  pub slots-are : slots ≡ slots_of b
  pub logs-most : logs ≤ 16
  pub slots-most : slots ≤ 800
  pub sized : length b ≡ cell_offset_in p logs slots

-- in the present one: what the functions on rows and slots ask
abbrev pub Counted : List ℕ → ℕ → ℕ → Type 0
Counted = CountedIn plan

-- in document 01's
abbrev pub Counted01 : List ℕ → ℕ → ℕ → Type 0
Counted01 = CountedIn plan01

-- so many slots on end, the first at start and the last at the end of the bytes: what the functions on slots of any layout ask
pub record Slotted (b : List ℕ) (start slots : ℕ) : Type 0 where
  pub slots-most : slots ≤ 800
  pub sized : length b ≡ start + slot_size * slots
