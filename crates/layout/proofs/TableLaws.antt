-- Bytes and images determine each other: what was written is read back, and bytes of a table's length and constants are what their image and stock write.
use Prim.Native.Nat.{ℕ, ◌+◌, ◌*◌, ◌^◌, ◌≤◌, ◌<◌}
use mathlib.Core.Path.{◌≡◌, sym, ap, ap₂, ◌∙◌, subst}
use mathlib.Core.List.{List, ◌++◌, append_assoc}
use native.Mathlib.Omega.{arith}
use lib.ListN.{length, get_or, length-append}
use lib.Seq.{take_all}
use Rattle.octets.specs.Octets.{Bytes, part, zeros}
use Rattle.octets.proofs.Parts.{length_part, part-append-left, part-add, bytes-part}
use Rattle.bigendian.specs.BigEndian.{unbe}
use Rattle.bigendian.proofs.Laws.{unbe-be, unbe-part-lt}
use Rattle.layout.specs.Image.{Image, slot_at, row_at, fresh_row, free_slot}
use Rattle.layout.specs.Lists.{tabulate, flat}
use Rattle.layout.specs.Layout.{Stock, header_size, row_size, slot_size, free_offset, zero_offset, count_offset, last_offset, row_offset, slot_offset, pad_offset, table_size, logs_of, slots_of, keeper_of, free_of, key_of, read_row, row_bytes, read_slot, slot_bytes, rows_of, cells_from, cells_of, read_table, stock_of, header_bytes, write_with}
use Rattle.layout.specs.Fits.{RowFits, StockFits, Fits, Formed, Counted}
use Rattle.layout.proofs.ListLaws.{length-tabulate, get_or-tabulate, tabulate-ext, tabulate-get_or, every-tabulate, length-flat, part-flat, flat-tabulate}
use Rattle.layout.proofs.FieldLaws.{length-row_bytes, length-slot_bytes, length-header_bytes, skip, read-row, write-row, mark-header, logs-header, zero-header, slots-header, keeper-header, free-header, count-header, key-header, last-header, write-header}
use Rattle.layout.proofs.CellLaws.{length-cells, cell-read, cells_fit, cells-bytes, cells-written, pads-written}

-- one row or slot of the image of bytes

pub length-rows : (b : List ℕ) → length (read_table b).rows ≡ logs_of b
unfolding read_table rows_of
length-rows b = length-tabulate (logs_of b) (λ g. read_row (part b (row_offset g) row_size))

pub length-slots : (b : List ℕ) → length (read_table b).slots ≡ slots_of b
unfolding read_table cells_of
length-slots b = length-cells b (row_offset (logs_of b)) (slots_of b)

pub cells_are : (b : List ℕ) (logs slots start : ℕ) → Counted b logs slots → start ≡ row_offset logs → cells_from b start slots ≡ (read_table b).slots
unfolding read_table cells_of
cells_are b logs slots start c e = ap (λ (a : ℕ). cells_from b a slots) e ∙ ap₂ (λ (g s : ℕ). cells_from b (row_offset g) s) c.logs-are c.slots-are

pub row_read : (b : List ℕ) (g : ℕ) → g < logs_of b → row_at (read_table b).rows g ≡ read_row (part b (row_offset g) row_size)
unfolding read_table rows_of
row_read b g h = get_or-tabulate (logs_of b) (λ j. read_row (part b (row_offset j) row_size)) g (fresh_row 0) h

pub slot_read : (b : List ℕ) (s : ℕ) → 1 ≤ s → s ≤ slots_of b → slot_at (read_table b).slots s ≡ read_slot (part b (slot_offset (logs_of b) s) slot_size)
unfolding read_table cells_of
slot_read b s h k = cell-read b (row_offset (logs_of b)) (slots_of b) s h k

-- what is written

module _ (stock : Stock) (m : Image) (h : Fits m) where
  pub length-header : length (header_bytes (length m.rows) (length m.slots) m.keeper m.free stock m.key) ≡ header_size
  length-header = length-header_bytes (length m.rows) (length m.slots) m.keeper m.free stock m.key h.key

  pub slot-lengths : (i : ℕ) → length (slot_bytes (get_or m.slots i (free_slot 0))) ≡ slot_size
  slot-lengths i = length-slot_bytes (get_or m.slots i (free_slot 0)) (h.slots i)

  pub length-rows-written : length (flat row_bytes m.rows) ≡ row_size * length m.rows
  length-rows-written = length-flat row_bytes row_size (fresh_row 0) m.rows (λ i. length-row_bytes (get_or m.rows i (fresh_row 0)))

  pub length-slots-written : length (flat slot_bytes m.slots) ≡ slot_size * length m.slots
  length-slots-written = length-flat slot_bytes slot_size (free_slot 0) m.slots slot-lengths

  -- "The length is 52 + 20G + 76S exactly", with the present header and rows
  pub length-write : length (write_with stock m) ≡ table_size (length m.rows) (length m.slots)
  unfolding write_with
  length-write = simp (length-append, length-header, length-rows-written, length-slots-written) (omega arith)

  -- a part of the header, a row and a slot of what was written
  header-written : (a n : ℕ) → a + n ≤ header_size → part (write_with stock m) a n ≡ part (header_bytes (length m.rows) (length m.slots) m.keeper m.free stock m.key) a n
  unfolding write_with
  header-written a n k =
      part-append-left (header_bytes (length m.rows) (length m.slots) m.keeper m.free stock m.key) (flat row_bytes m.rows ++ flat slot_bytes m.slots) a n (omega (arith, length-header))

  row_written : (g : ℕ) → g < length m.rows → part (write_with stock m) (row_offset g) row_size ≡ row_bytes (row_at m.rows g)
  unfolding write_with
  row_written g k =
      skip (header_bytes (length m.rows) (length m.slots) m.keeper m.free stock m.key) (flat row_bytes m.rows ++ flat slot_bytes m.slots) header_size (row_size * g) row_size length-header
      ∙ part-append-left (flat row_bytes m.rows) (flat slot_bytes m.slots) (row_size * g) row_size (omega (arith, length-rows-written))
      ∙ part-flat row_bytes row_size (fresh_row 0) m.rows g (λ i. length-row_bytes (get_or m.rows i (fresh_row 0))) k

  -- what stands before the slots
  before : List ℕ
  before = header_bytes (length m.rows) (length m.slots) m.keeper m.free stock m.key ++ flat row_bytes m.rows

  length_before : length before ≡ row_offset (length m.rows)
  unfolding before
  length_before = length-append (header_bytes (length m.rows) (length m.slots) m.keeper m.free stock m.key) (flat row_bytes m.rows) ∙ omega (arith, length-header, length-rows-written)

  behind : write_with stock m ≡ before ++ flat slot_bytes m.slots
  unfolding write_with before
  behind = sym (append_assoc (header_bytes (length m.rows) (length m.slots) m.keeper m.free stock m.key) (flat row_bytes m.rows) (flat slot_bytes m.slots))

  pub logs-written : logs_of (write_with stock m) ≡ length m.rows
  unfolding logs_of
  logs-written = ap unbe (header-written 4 1 (omega arith) ∙ logs-header _ _ _ _ _ _) ∙ unbe-be 1 (length m.rows) h.logs

  pub slots-written : slots_of (write_with stock m) ≡ length m.slots
  unfolding slots_of
  slots-written = ap unbe (header-written 6 2 (omega arith) ∙ slots-header _ _ _ _ _ _) ∙ unbe-be 2 (length m.slots) h.count

  rows_written : rows_of (write_with stock m) ≡ m.rows
  unfolding rows_of
  rows_written =
      ap (λ (k : ℕ). tabulate k (λ g. read_row (part (write_with stock m) (row_offset g) row_size))) logs-written
      ∙ tabulate-ext (length m.rows) (λ g. read_row (part (write_with stock m) (row_offset g) row_size)) (λ g. row_at m.rows g) (λ g k. ap read_row (row_written g k) ∙ read-row (row_at m.rows g) (h.rows g))
      ∙ tabulate-get_or m.rows (fresh_row 0)

  table-cells : cells_of (write_with stock m) ≡ m.slots
  unfolding cells_of
  table-cells =
      ap₂ (λ (s k : ℕ). cells_from (write_with stock m) (row_offset k) s) slots-written logs-written
      ∙ ap (λ (b : List ℕ). cells_from b (row_offset (length m.rows)) (length m.slots)) behind
      ∙ cells-written before (row_offset (length m.rows)) length_before m.slots h.slots

  -- an image that fits is read back
  pub read-with : read_table (write_with stock m) ≡ m
  unfolding read_table keeper_of key_of free_of
  read-with =
      λ i. record {
        keeper = (ap unbe (header-written 8 8 (omega arith) ∙ keeper-header _ _ _ _ _ _) ∙ unbe-be 8 m.keeper h.keeper) i;
        key = (header-written 20 32 (omega arith) ∙ key-header _ _ _ _ _ _ h.key) i;
        free = (ap unbe (header-written free_offset 2 (omega arith) ∙ free-header _ _ _ _ _ _) ∙ unbe-be 2 m.free h.free) i;
        rows = rows_written i;
        slots = table-cells i;
      }

  -- and so is a stock
  pub stock-with : StockFits stock → stock_of (write_with stock m) ≡ stock
  unfolding stock_of
  stock-with k =
      λ i. record {
        count = (ap unbe (header-written count_offset 2 (omega arith) ∙ count-header _ _ _ _ _ _) ∙ unbe-be 2 stock.count k.count) i;
        last = (ap unbe (header-written last_offset 2 (omega arith) ∙ last-header _ _ _ _ _ _ h.key) ∙ unbe-be 2 stock.last k.last) i;
      }

  -- and the bytes have a table's length and constants
  pub formed-with : Formed (write_with stock m)
  formed-with =
      record {
        marked = header-written 0 4 (omega arith) ∙ mark-header _ _ _ _ _ _;
        zero = header-written zero_offset 1 (omega arith) ∙ zero-header _ _ _ _ _ _;
        pads = λ i k. pad i (omega (arith, slots-written));
        sized = length-write ∙ sym (ap₂ table_size logs-written slots-written);
      }
    where
      pad : (i : ℕ) → i < length m.slots → part (write_with stock m) (pad_offset (logs_of (write_with stock m)) i) 1 ≡ zeros 1
      pad i k =
          ap₂ (λ (b : List ℕ) (g : ℕ). part b (pad_offset g i) 1) behind logs-written
          ∙ pads-written before (row_offset (length m.rows)) length_before m.slots h.slots i k

-- what is read

pub fresh-fits : (r : ℕ) → r < 256 ^ 2 → RowFits (fresh_row r)
fresh-fits r h = record { low = omega arith; high = omega arith; first = omega arith; last = omega arith; reserve = h }

row_fits : (b : List ℕ) → Bytes b → RowFits (read_row b)
unfolding read_row
row_fits b h = record { low = unbe-part-lt b 0 8 h; high = unbe-part-lt b 8 8 h; first = unbe-part-lt b 16 2 h; last = unbe-part-lt b 18 2 h; reserve = unbe-part-lt b 20 2 h }

-- a row that any bytes say fits
pub rows_fit : (b : List ℕ) → Bytes b → (g : ℕ) → RowFits (row_at (read_table b).rows g)
unfolding read_table rows_of
rows_fit b h =
    every-tabulate RowFits (logs_of b) (λ g. read_row (part b (row_offset g) row_size)) (fresh_row 0) (fresh-fits 0 (omega arith)) (λ g k. row_fits (part b (row_offset g) row_size) (bytes-part b (row_offset g) row_size h))

module _ (b : List ℕ) (bytes : Bytes b) (h : Formed b) where
  row-size : (g : ℕ) → g < logs_of b → length (part b (row_offset g) row_size) ≡ row_size
  row-size g k = length_part b (row_offset g) row_size (omega (arith, h.sized))

  rows-read : flat row_bytes (rows_of b) ≡ part b header_size (row_size * logs_of b)
  unfolding rows_of
  rows-read =
      flat-tabulate row_bytes row_size (fresh_row 0) b (logs_of b) header_size (λ g. read_row (part b (row_offset g) row_size))
      (λ g k. write-row (part b (row_offset g) row_size) (bytes-part b (row_offset g) row_size bytes) (row-size g k))

  cells-read : flat slot_bytes (cells_of b) ≡ part b (row_offset (logs_of b)) (slot_size * slots_of b)
  unfolding cells_of
  cells-read = cells-bytes b (row_offset (logs_of b)) (slots_of b) bytes h.sized h.pads

  header_read : header_bytes (logs_of b) (slots_of b) (keeper_of b) (free_of b) (stock_of b) (key_of b) ≡ part b 0 header_size
  unfolding logs_of slots_of keeper_of free_of stock_of key_of
  header_read = write-header b bytes (omega (arith, h.sized)) h.marked h.zero

  -- bytes of a table's length and constants are what their image and stock write
  pub write_read : write_with (stock_of b) (read_table b) ≡ b
  unfolding write_with read_table
  write_read =
      ap₂ (λ (g s : ℕ). header_bytes g s (keeper_of b) (free_of b) (stock_of b) (key_of b) ++ (flat row_bytes (rows_of b) ++ flat slot_bytes (cells_of b))) (length-rows b) (length-slots b)
      ∙ ap₂ ◌++◌ header_read (ap₂ ◌++◌ rows-read cells-read ∙ sym (part-add b header_size (row_size * logs_of b) (slot_size * slots_of b)))
      ∙ sym (part-add b 0 header_size (row_size * logs_of b + slot_size * slots_of b))
      ∙ take_all (header_size + (row_size * logs_of b + slot_size * slots_of b)) b (omega (arith, h.sized))

  -- their image fits
  pub fits_read : Fits (read_table b)
  unfolding read_table rows_of cells_of logs_of slots_of keeper_of free_of key_of
  fits_read =
      record {
        logs = subst (λ (n : ℕ). n < 256 ^ 1) (sym (length-rows b)) (unbe-part-lt b 4 1 bytes);
        count = subst (λ (n : ℕ). n < 256 ^ 2) (sym (length-slots b)) (unbe-part-lt b 6 2 bytes);
        keeper = unbe-part-lt b 8 8 bytes;
        free = unbe-part-lt b free_offset 2 bytes;
        key = length_part b 20 32 (omega (arith, h.sized));
        rows = rows_fit b bytes;
        slots = cells_fit b (row_offset (logs_of b)) (slots_of b) bytes h.sized;
      }

-- and so does their stock
pub stock-read : (b : List ℕ) → Bytes b → StockFits (stock_of b)
unfolding stock_of
stock-read b h = record { count = unbe-part-lt b count_offset 2 h; last = unbe-part-lt b last_offset 2 h }
