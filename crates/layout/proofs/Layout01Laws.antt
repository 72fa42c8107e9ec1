-- Document 01's layout: an image without reserves that was written is read back, and what bytes of that layout say fits.
use Prim.Native.Nat.{ℕ, ◌+◌, ◌*◌, ◌^◌, ◌≤◌, ◌<◌}
use mathlib.Core.Path.{◌≡◌, refl, sym, ap, ap₂, ◌∙◌, subst}
use mathlib.Core.List.{List, ◌++◌, append_assoc}
use native.Mathlib.Omega.{arith}
use lib.ListN.{length, get_or, length-append}
use Rattle.octets.specs.Octets.{Bytes, part, zeros}
use Rattle.octets.proofs.Parts.{length_part, part-append-left, bytes-part}
use Rattle.octets.proofs.Zeros.{length-zeros}
use Rattle.bigendian.specs.BigEndian.{be, unbe}
use Rattle.bigendian.proofs.Laws.{length-be, unbe-be, unbe-part-lt}
use Rattle.layout.specs.declared.Row.{Row}
use Rattle.layout.specs.Image.{Image, row_at, fresh_row}
use Rattle.layout.specs.Lists.{tabulate, flat}
use Rattle.layout.specs.Layout.{plan01, stocked, mark, slot_size, free_offset, zero_offset, count_offset, row_offset_in, logs_of, slots_of, keeper_of, free_of, key_of, slot_bytes, header_bytes, cells_from}
use Rattle.layout.specs.Layout01.{read_row01, row_bytes01, rows_of01, cells_of01, read01, table_size01, header_bytes01, write01}
use Rattle.layout.specs.Fits.{RowFits, Fits, Unreserved, Counted01}
use Rattle.layout.proofs.ListLaws.{length-tabulate, get_or-tabulate, tabulate-ext, tabulate-get_or, every-tabulate, length-flat, part-flat}
use Rattle.layout.proofs.FieldLaws.{skip, here, only, logs-header, zero-header, slots-header, keeper-header, free-header, count-header, key-header}
use Rattle.layout.proofs.CellLaws.{length-cells, cells_fit, length-cells-written, cells-written, pads-written}
use Rattle.layout.proofs.TableLaws.{fresh-fits}

-- one row

pub length-row_bytes01 : (r : Row) → length (row_bytes01 r) ≡ plan01.row
unfolding row_bytes01
length-row_bytes01 r = simp (length-append, length-be)

pub read_row01_lem : (r : Row) → RowFits r → r.reserve ≡ 0 → read_row01 (row_bytes01 r) ≡ r
unfolding read_row01 row_bytes01
read_row01_lem r h z =
    let l : List ℕ = be 8 r.low in
    let m : List ℕ = be 8 r.high in
    let f : List ℕ = be 2 r.first in
    let e : List ℕ = be 2 r.last in
    let past : (a n : ℕ) → part (l ++ (m ++ (f ++ e))) (8 + (8 + a)) n ≡ part (f ++ e) a n =
    λ a n. skip l (m ++ (f ++ e)) 8 (8 + a) n (length-be 8 r.low) ∙ skip m (f ++ e) 8 a n (length-be 8 r.high) in
    λ i. record {
      low = (ap unbe (here l (m ++ (f ++ e)) 8 (length-be 8 r.low)) ∙ unbe-be 8 r.low h.low) i;
      high = (ap unbe (skip l (m ++ (f ++ e)) 8 0 8 (length-be 8 r.low) ∙ here m (f ++ e) 8 (length-be 8 r.high)) ∙ unbe-be 8 r.high h.high) i;
      first = (ap unbe (past 0 2 ∙ here f e 2 (length-be 2 r.first)) ∙ unbe-be 2 r.first h.first) i;
      last = (ap unbe (past 2 2 ∙ skip f e 2 0 2 (length-be 2 r.first) ∙ only e 2 (length-be 2 r.last)) ∙ unbe-be 2 r.last h.last) i;
      reserve = sym z i;
    }

row_fits01 : (b : List ℕ) → Bytes b → RowFits (read_row01 b)
unfolding read_row01
row_fits01 b h = record { low = unbe-part-lt b 0 8 h; high = unbe-part-lt b 8 8 h; first = unbe-part-lt b 16 2 h; last = unbe-part-lt b 18 2 h; reserve = omega arith }

-- the header: with another mark and zero for a number of free slots, the present one's first 52 bytes

module _ (logs slots keeper free : ℕ) (key : List ℕ) where
  pub length-headerBytes01 : length key ≡ 32 → length (header_bytes01 logs slots keeper free key) ≡ plan01.header
  unfolding header_bytes01
  length-headerBytes01 h = simp (length-append, length-be, length-zeros) (omega (arith, h))

  behind-mark : List ℕ
  behind-mark = be 1 logs ++ (zeros 1 ++ (be 2 slots ++ (be 8 keeper ++ (be 2 free ++ (zeros 2 ++ key)))))

  mark-header01 : part (header_bytes01 logs slots keeper free key) 0 4 ≡ plan01.mark
  unfolding header_bytes01 behind-mark
  mark-header01 = here plan01.mark behind-mark 4 refl

  length-behind : length key ≡ 32 → length behind-mark ≡ 48
  unfolding behind-mark
  length-behind h = simp (length-append, length-be, length-zeros) (omega (arith, h))

  zero-two : be 2 0 ≡ zeros 2
  unfolding be zeros
  zero-two = refl

  as-now : header_bytes logs slots keeper free (stocked 0 0) key ≡ mark ++ (behind-mark ++ be 2 0)
  unfolding header_bytes behind-mark
  as-now = ap (λ (z : List ℕ). mark ++ (be 1 logs ++ (zeros 1 ++ (be 2 slots ++ (be 8 keeper ++ (be 2 free ++ (z ++ (key ++ be 2 0)))))))) zero-two ∙ simp append_assoc

  like-now : length key ≡ 32 → (a n : ℕ) → a + n ≤ 48 → part (header_bytes01 logs slots keeper free key) (4 + a) n ≡ part (header_bytes logs slots keeper free (stocked 0 0) key) (4 + a) n
  unfolding header_bytes01 behind-mark
  like-now h a n k =
      skip plan01.mark behind-mark 4 a n refl
      ∙ sym (ap (λ (l : List ℕ). part l (4 + a) n) as-now ∙ skip mark (behind-mark ++ be 2 0) 4 a n refl ∙ part-append-left behind-mark (be 2 0) a n (omega (arith, length-behind h)))

-- what is written

module _ (m : Image) (h : Fits m) where
  header : List ℕ
  header = header_bytes01 (length m.rows) (length m.slots) m.keeper m.free m.key

  length-header : length header ≡ plan01.header
  unfolding header
  length-header = length-headerBytes01 (length m.rows) (length m.slots) m.keeper m.free m.key h.key

  length-rows-written : length (flat row_bytes01 m.rows) ≡ plan01.row * length m.rows
  length-rows-written = length-flat row_bytes01 plan01.row (fresh_row 0) m.rows (λ i. length-row_bytes01 (get_or m.rows i (fresh_row 0)))

  length_before : length (header ++ flat row_bytes01 m.rows) ≡ row_offset_in plan01 (length m.rows)
  length_before = length-append header (flat row_bytes01 m.rows) ∙ omega (arith, length-header, length-rows-written)

  behind : write01 m ≡ (header ++ flat row_bytes01 m.rows) ++ flat slot_bytes m.slots
  unfolding write01 header
  behind = sym (append_assoc header (flat row_bytes01 m.rows) (flat slot_bytes m.slots))

  -- "The length is 52 + 20G + 76S exactly"
  pub length-write01 : length (write01 m) ≡ table_size01 (length m.rows) (length m.slots)
  length-write01 =
      ap length behind
      ∙ length-append (header ++ flat row_bytes01 m.rows) (flat slot_bytes m.slots)
      ∙ ap₂ ◌+◌ length_before (length-cells-written (header ++ flat row_bytes01 m.rows) (row_offset_in plan01 (length m.rows)) length_before m.slots h.slots)

  header-written : (a n : ℕ) → a + n ≤ plan01.header → part (write01 m) a n ≡ part header a n
  unfolding write01 header
  header-written a n k = part-append-left header (flat row_bytes01 m.rows ++ flat slot_bytes m.slots) a n (omega (arith, length-header))

  -- a field behind the mark stands where the present header has it
  field-written : (a n : ℕ) → a + n ≤ 48 → part (write01 m) (4 + a) n ≡ part (header_bytes (length m.rows) (length m.slots) m.keeper m.free (stocked 0 0) m.key) (4 + a) n
  unfolding header
  field-written a n k = header-written (4 + a) n (omega arith) ∙ like-now _ _ _ _ _ h.key a n k

  pub logs-write01 : logs_of (write01 m) ≡ length m.rows
  unfolding logs_of
  logs-write01 = ap unbe (field-written 0 1 (omega arith) ∙ logs-header _ _ _ _ _ _) ∙ unbe-be 1 (length m.rows) h.logs

  pub slots-write01 : slots_of (write01 m) ≡ length m.slots
  unfolding slots_of
  slots-write01 = ap unbe (field-written 2 2 (omega arith) ∙ slots-header _ _ _ _ _ _) ∙ unbe-be 2 (length m.slots) h.count

  -- the constants
  pub mark-write01 : part (write01 m) 0 4 ≡ plan01.mark
  unfolding header
  mark-write01 = header-written 0 4 (omega arith) ∙ mark-header01 _ _ _ _ _

  pub zero-write01 : part (write01 m) zero_offset 1 ≡ zeros 1
  zero-write01 = field-written 1 1 (omega arith) ∙ zero-header _ _ _ _ _ _

  pub unused-write01 : part (write01 m) count_offset 2 ≡ zeros 2
  unused-write01 = field-written 14 2 (omega arith) ∙ count-header _ _ _ _ (stocked 0 0) _ ∙ zero-two 0 0 0 0 m.key

  pub pads-write01 : (i : ℕ) → i < length m.slots → part (write01 m) (row_offset_in plan01 (length m.rows) + slot_size * i + 1) 1 ≡ zeros 1
  pads-write01 i k =
      ap (λ (b : List ℕ). part b (row_offset_in plan01 (length m.rows) + slot_size * i + 1) 1) behind
      ∙ pads-written (header ++ flat row_bytes01 m.rows) (row_offset_in plan01 (length m.rows)) length_before m.slots h.slots i k

  -- rows and slots
  row_written : (g : ℕ) → g < length m.rows → part (write01 m) (row_offset_in plan01 g) plan01.row ≡ row_bytes01 (row_at m.rows g)
  unfolding write01 header
  row_written g k =
      skip header (flat row_bytes01 m.rows ++ flat slot_bytes m.slots) plan01.header (plan01.row * g) plan01.row length-header
      ∙ part-append-left (flat row_bytes01 m.rows) (flat slot_bytes m.slots) (plan01.row * g) plan01.row (omega (arith, length-rows-written))
      ∙ part-flat row_bytes01 plan01.row (fresh_row 0) m.rows g (λ i. length-row_bytes01 (get_or m.rows i (fresh_row 0))) k

  rows_written : Unreserved m → rows_of01 (write01 m) ≡ m.rows
  unfolding rows_of01
  rows_written u =
      ap (λ (k : ℕ). tabulate k (λ g. read_row01 (part (write01 m) (row_offset_in plan01 g) plan01.row))) logs-write01
      ∙ tabulate-ext (length m.rows) (λ g. read_row01 (part (write01 m) (row_offset_in plan01 g) plan01.row)) (λ g. row_at m.rows g) (λ g k. ap read_row01 (row_written g k) ∙ read_row01_lem (row_at m.rows g) (h.rows g) (u g))
      ∙ tabulate-get_or m.rows (fresh_row 0)

  table-cells : cells_of01 (write01 m) ≡ m.slots
  unfolding cells_of01
  table-cells =
      ap₂ (λ (s k : ℕ). cells_from (write01 m) (row_offset_in plan01 k) s) slots-write01 logs-write01
      ∙ ap (λ (b : List ℕ). cells_from b (row_offset_in plan01 (length m.rows)) (length m.slots)) behind
      ∙ cells-written (header ++ flat row_bytes01 m.rows) (row_offset_in plan01 (length m.rows)) length_before m.slots h.slots

  -- an image that fits, and has no reserves, is read back
  pub read-write01 : Unreserved m → read01 (write01 m) ≡ m
  unfolding read01 keeper_of key_of free_of
  read-write01 u =
      λ i. record {
        keeper = (ap unbe (field-written 4 8 (omega arith) ∙ keeper-header _ _ _ _ _ _) ∙ unbe-be 8 m.keeper h.keeper) i;
        key = (field-written 16 32 (omega arith) ∙ key-header _ _ _ _ _ _ h.key) i;
        free = (ap unbe (field-written 12 2 (omega arith) ∙ free-header _ _ _ _ _ _) ∙ unbe-be 2 m.free h.free) i;
        rows = rows_written u i;
        slots = table-cells i;
      }

-- what is read

pub length_rows01 : (b : List ℕ) → length (read01 b).rows ≡ logs_of b
unfolding read01 rows_of01
length_rows01 b = length-tabulate (logs_of b) (λ g. read_row01 (part b (row_offset_in plan01 g) plan01.row))

pub length_slots01 : (b : List ℕ) → length (read01 b).slots ≡ slots_of b
unfolding read01 cells_of01
length_slots01 b = length-cells b (row_offset_in plan01 (logs_of b)) (slots_of b)

pub cells_are01 : (b : List ℕ) (logs slots : ℕ) → Counted01 b logs slots → cells_from b (row_offset_in plan01 logs) slots ≡ (read01 b).slots
unfolding read01 cells_of01
cells_are01 b logs slots c = ap₂ (λ (g s : ℕ). cells_from b (row_offset_in plan01 g) s) c.logs-are c.slots-are

pub row-read01 : (b : List ℕ) (g : ℕ) → g < logs_of b → row_at (read01 b).rows g ≡ read_row01 (part b (row_offset_in plan01 g) plan01.row)
unfolding read01 rows_of01
row-read01 b g h = get_or-tabulate (logs_of b) (λ j. read_row01 (part b (row_offset_in plan01 j) plan01.row)) g (fresh_row 0) h

pub row_there01 : (b : List ℕ) (logs slots g : ℕ) → Counted01 b logs slots → g < logs → read_row01 (part b (row_offset_in plan01 g) plan01.row) ≡ row_at (read01 b).rows g
row_there01 b logs slots g c h = sym (row-read01 b g (omega (arith, c.logs-are)))

-- rows of 20 bytes have no reserve
pub unreserved01 : (b : List ℕ) → Unreserved (read01 b)
unfolding read01 rows_of01 read_row01
unreserved01 b = every-tabulate (λ (r : Row). r.reserve ≡ 0) (logs_of b) (λ g. read_row01 (part b (row_offset_in plan01 g) plan01.row)) (fresh_row 0) refl (λ g k. refl)

-- a row that any bytes say fits
pub rows_fit01 : (b : List ℕ) → Bytes b → (g : ℕ) → RowFits (row_at (read01 b).rows g)
unfolding read01 rows_of01
rows_fit01 b h =
    every-tabulate RowFits (logs_of b) (λ g. read_row01 (part b (row_offset_in plan01 g) plan01.row)) (fresh_row 0) (fresh-fits 0 (omega arith)) (λ g k. row_fits01 (part b (row_offset_in plan01 g) plan01.row) (bytes-part b (row_offset_in plan01 g) plan01.row h))

pub fits-read01 : (b : List ℕ) → Bytes b → length b ≡ table_size01 (logs_of b) (slots_of b) → Fits (read01 b)
unfolding read01 rows_of01 cells_of01 logs_of slots_of keeper_of free_of key_of
fits-read01 b bytes sized =
    record {
      logs = subst (λ (n : ℕ). n < 256 ^ 1) (sym (length_rows01 b)) (unbe-part-lt b 4 1 bytes);
      count = subst (λ (n : ℕ). n < 256 ^ 2) (sym (length_slots01 b)) (unbe-part-lt b 6 2 bytes);
      keeper = unbe-part-lt b 8 8 bytes;
      free = unbe-part-lt b free_offset 2 bytes;
      key = length_part b 20 32 (omega (arith, sized));
      rows = rows_fit01 b bytes;
      slots = cells_fit b (row_offset_in plan01 (logs_of b)) (slots_of b) bytes sized;
    }
