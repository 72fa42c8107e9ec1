-- A table as data: what its header, rows and slots say. `Layout` says where the bytes of each stand; everything else speaks of an image.
use Rattle.std.specs.Prelude.{ℕ, zero, suc, List, get_or, set}
use Rattle.octets.specs.Octets.{zeros}
use Rattle.layout.specs.declared.Row.{Row}

-- document 01: "A slot holds one entry: a position, a 32-byte value and a 32-byte digest."
pub record Entry : Type 0 where
  pub position : ℕ
  pub value : List ℕ
  pub digest : List ℕ

-- a slot: its owner (0 free, log number + 1 held), the next slot of its chain (0 at the end), and an entry
pub record Slot : Type 0 where
  pub owner : ℕ
  pub next : ℕ
  pub position : ℕ
  pub value : List ℕ
  pub digest : List ℕ

-- keeper number, key, first free slot; the rows; the slots from 1 on
pub record Image : Type 0 where
  pub keeper : ℕ
  pub key : List ℕ
  pub free : ℕ
  pub rows : List Row
  pub slots : List Slot

abbrev pub entry_of : Slot → Entry
entry_of s = record { position = s.position; value = s.value; digest = s.digest }

abbrev pub blank_entry : Entry
blank_entry = record { position = 0; value = zeros 32; digest = zeros 32 }

-- a free slot whose next is n
abbrev pub free_slot : ℕ → Slot
free_slot n = record { owner = 0; next = n; position = 0; value = zeros 32; digest = zeros 32 }

-- document 01: "A fresh log has L = 1 and H = 0", and no slots; with a reserve
abbrev pub fresh_row : ℕ → Row
fresh_row reserve = record { low = 1; high = 0; first = 0; last = 0; reserve = reserve }

-- slots count from 1; there is no slot 0
unfoldable pub slot_at : List Slot → ℕ → Slot
slot_at slots zero = free_slot 0
slot_at slots (suc i) = get_or slots i (free_slot 0)

unfoldable pub set_slot : List Slot → ℕ → Slot → List Slot
set_slot slots zero x = slots
set_slot slots (suc i) x = set slots i x

abbrev pub row_at : List Row → ℕ → Row
row_at rows g = get_or rows g (fresh_row 0)
