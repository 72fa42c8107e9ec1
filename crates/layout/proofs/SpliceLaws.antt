-- A row, a slot, a next or the first free slot put into a table's bytes is that one set in its image, and the number of free slots or the last one is that set in
-- its stock; first on images, then on bytes.
use Prim.Native.Nat.{ℕ, zero, suc, ◌+◌, ◌*◌, ◌^◌, ◌≤◌, ◌<◌}
use mathlib.Core.Path.{◌≡◌, sym, ap, ◌∙◌, subst}
use mathlib.Core.List.{List, ◌++◌}
use native.Mathlib.Omega.{arith}
use lib.ListN.{length, get_or, set, length-set}
use Rattle.octets.specs.Octets.{Bytes, splice}
use Rattle.octets.proofs.Parts.{splice-left, splice-whole}
use Rattle.bigendian.specs.BigEndian.{be}
use Rattle.bigendian.proofs.Laws.{length-be}
use Rattle.layout.specs.declared.Row.{Row}
use Rattle.layout.specs.Image.{Slot, Image, slot_at, set_slot, row_at, fresh_row, free_slot}
use Rattle.layout.specs.Lists.{flat}
use Rattle.layout.specs.Layout.{Stock, stocked, header_size, row_size, slot_size, free_offset, count_offset, last_offset, cell_offset, slot_offset, next_offset, logs_of, slots_of, row_bytes, slot_bytes, read_table, stock_of, header_bytes, write_with, put_row, put_slot, put_next, put_free, put_count, put_last}
use Rattle.layout.specs.Changes.{with_row, with_slot, with_free, with_next}
use Rattle.layout.specs.Fits.{RowFits, SlotFits, Fits, Formed}
use Rattle.layout.proofs.ListLaws.{every_set, splice-flat}
use Rattle.layout.proofs.FieldLaws.{length-row_bytes, length-slot_bytes, over, splice-next, splice-free, splice-count, splice-last}
use Rattle.layout.proofs.TableLaws.{length-rows, length-slots, length-header, slot-lengths, length-rows-written, logs-written, read-with, write_read, fits_read}
use Rattle.layout.proofs.CellLaws.{free-fits}

-- the image still fits

module _ (m : Image) (h : Fits m) where
  pub fits-row : (g : ℕ) (r : Row) → RowFits r → Fits (with_row m g r)
  fits-row g r k =
      record {
        logs = subst (λ (n : ℕ). n < 256 ^ 1) (sym (length-set m.rows g r)) h.logs;
        count = h.count;
        keeper = h.keeper;
        free = h.free;
        key = h.key;
        rows = every_set RowFits m.rows g r (fresh_row 0) h.rows k;
        slots = h.slots;
      }

  pub fits-slot : (s : ℕ) (x : Slot) → SlotFits x → Fits (with_slot m s x)
  unfolding set_slot
  fits-slot zero x k = h
  fits-slot (suc i) x k =
      record {
        logs = h.logs;
        count = subst (λ (n : ℕ). n < 256 ^ 2) (sym (length-set m.slots i x)) h.count;
        keeper = h.keeper;
        free = h.free;
        key = h.key;
        rows = h.rows;
        slots = every_set SlotFits m.slots i x (free_slot 0) h.slots k;
      }

  pub fits-free : (f : ℕ) → f < 256 ^ 2 → Fits (with_free m f)
  fits-free f k = record { logs = h.logs; count = h.count; keeper = h.keeper; free = k; key = h.key; rows = h.rows; slots = h.slots }

  pub slot-fits-at : (s : ℕ) → SlotFits (slot_at m.slots s)
  unfolding slot_at
  slot-fits-at zero = free-fits 0 (omega arith)
  slot-fits-at (suc i) = h.slots i

  pub next_fits : (s n : ℕ) → n < 256 ^ 2 → SlotFits (with_next (slot_at m.slots s) n)
  next_fits s n k = let x = slot-fits-at s in record { owner = x.owner; next = k; position = x.position; value = x.value; digest = x.digest }

-- on images

module _ (stock : Stock) (m : Image) (h : Fits m) where
  header : List ℕ
  header = header_bytes (length m.rows) (length m.slots) m.keeper m.free stock m.key

  pub write-row : (g : ℕ) (r : Row) → g < length m.rows → put_row (write_with stock m) g r ≡ write_with stock (with_row m g r)
  unfolding put_row write_with header
  write-row g r k =
      let x : List ℕ = row_bytes r in
      let R : List ℕ = flat row_bytes m.rows in
      let S : List ℕ = flat slot_bytes m.slots in
      let e : row_size * g ≡ row_size * g + 0 = omega arith in
      over header (R ++ S) header_size (row_size * g) x (length-header stock m h)
      ∙ ap (λ (q : List ℕ). header ++ q) (splice-left R S (row_size * g) x (omega (arith, length-rows-written stock m h, length-row_bytes r))
      ∙ ap (λ (q : List ℕ). q ++ S) (ap (λ (a : ℕ). splice R a x) e
      ∙ splice-flat row_bytes row_size (fresh_row 0) m.rows g 0 x r (λ i. length-row_bytes (get_or m.rows i (fresh_row 0))) k (omega (arith, length-row_bytes r)) (sym (splice-whole (row_bytes (row_at m.rows g)) x (length-row_bytes r ∙ sym (length-row_bytes (row_at m.rows g)))))))
      ∙ ap (λ (n : ℕ). header_bytes n (length m.slots) m.keeper m.free stock m.key ++ (flat row_bytes (set m.rows g r) ++ S)) (sym (length-set m.rows g r))

  -- a splice inside slot i + 1 makes it y
  write_cell : (i a : ℕ) (x : List ℕ) (y : Slot) → i < length m.slots → a + length x ≤ slot_size → slot_bytes y ≡ splice (slot_bytes (get_or m.slots i (free_slot 0))) a x
      → splice (write_with stock m) (cell_offset (length m.rows) i + a) x ≡ write_with stock (with_slot m (suc i) y)
  unfolding write_with header set_slot
  write_cell i a x y k l e =
      let R : List ℕ = flat row_bytes m.rows in
      let S : List ℕ = flat slot_bytes m.slots in
      let o : cell_offset (length m.rows) i + a ≡ header_size + (row_size * length m.rows + (slot_size * i + a)) = omega arith in
      ap (λ (n : ℕ). splice (header ++ (R ++ S)) n x) o
      ∙ over header (R ++ S) header_size (row_size * length m.rows + (slot_size * i + a)) x (length-header stock m h)
      ∙ ap (λ (q : List ℕ). header ++ q) (over R S (row_size * length m.rows) (slot_size * i + a) x (length-rows-written stock m h)
      ∙ ap (λ (q : List ℕ). R ++ q) (splice-flat slot_bytes slot_size (free_slot 0) m.slots i a x y (slot-lengths stock m h) k l e))
      ∙ ap (λ (n : ℕ). header_bytes (length m.rows) n m.keeper m.free stock m.key ++ (R ++ flat slot_bytes (set m.slots i y))) (sym (length-set m.slots i y))

  pub write-slot : (s : ℕ) (x : Slot) → 1 ≤ s → s ≤ length m.slots → SlotFits x → put_slot (write_with stock m) s x ≡ write_with stock (with_slot m s x)
  unfolding put_slot
  write-slot zero x l k f = absurd (omega arith)
  write-slot (suc i) x l k f =
      let e : slot_offset (logs_of (write_with stock m)) (suc i) ≡ cell_offset (length m.rows) i + 0 = omega (arith, logs-written stock m h) in
      ap (λ (a : ℕ). splice (write_with stock m) a (slot_bytes x)) e
      ∙ write_cell i 0 (slot_bytes x) x (omega arith) (omega (arith, length-slot_bytes x f)) (sym (splice-whole (slot_bytes (get_or m.slots i (free_slot 0))) (slot_bytes x) (length-slot_bytes x f ∙ sym (slot-lengths stock m h i))))

  pub write-next : (s n : ℕ) → 1 ≤ s → s ≤ length m.slots → put_next (write_with stock m) s n ≡ write_with stock (with_slot m s (with_next (slot_at m.slots s) n))
  unfolding put_next slot_at
  write-next zero n l k = absurd (omega arith)
  write-next (suc i) n l k =
      let e : next_offset (logs_of (write_with stock m)) (suc i) ≡ cell_offset (length m.rows) i + 2 = omega (arith, logs-written stock m h) in
      let x : Slot = get_or m.slots i (free_slot 0) in
      ap (λ (a : ℕ). splice (write_with stock m) a (be 2 n)) e
      ∙ write_cell i 2 (be 2 n) (with_next x n) (omega arith) (omega (arith, length-be 2 n)) (splice-next x n)

  pub write-free : (f : ℕ) → put_free (write_with stock m) f ≡ write_with stock (with_free m f)
  unfolding put_free write_with header
  write-free f =
      let T : List ℕ = flat row_bytes m.rows ++ flat slot_bytes m.slots in
      splice-left header T free_offset (be 2 f) (omega (arith, length-header stock m h, length-be 2 f))
      ∙ ap (λ (q : List ℕ). q ++ T) (splice-free (length m.rows) (length m.slots) m.keeper m.free stock m.key f)

  pub write-count : (n : ℕ) → put_count (write_with stock m) n ≡ write_with (stocked n stock.last) m
  unfolding put_count write_with header
  write-count n =
      let T : List ℕ = flat row_bytes m.rows ++ flat slot_bytes m.slots in
      splice-left header T count_offset (be 2 n) (omega (arith, length-header stock m h, length-be 2 n))
      ∙ ap (λ (q : List ℕ). q ++ T) (splice-count (length m.rows) (length m.slots) m.keeper m.free stock m.key n)

  pub write-last : (s : ℕ) → put_last (write_with stock m) s ≡ write_with (stocked stock.count s) m
  unfolding put_last write_with header
  write-last s =
      let T : List ℕ = flat row_bytes m.rows ++ flat slot_bytes m.slots in
      splice-left header T last_offset (be 2 s) (omega (arith, length-header stock m h, length-be 2 s))
      ∙ ap (λ (q : List ℕ). q ++ T) (splice-last (length m.rows) (length m.slots) m.keeper m.free stock m.key h.key s)

-- on bytes: from the image and back

module _ (b : List ℕ) (bytes : Bytes b) (h : Formed b) where
  through : (put : List ℕ → List ℕ) (m : Image) → Fits m → put (write_with (stock_of b) (read_table b)) ≡ write_with (stock_of b) m → read_table (put b) ≡ m
  through put m f e = ap read_table (ap put (sym (write_read b bytes h)) ∙ e) ∙ read-with (stock_of b) m f

  pub read-put_row : (g : ℕ) (r : Row) → g < logs_of b → RowFits r → read_table (put_row b g r) ≡ with_row (read_table b) g r
  read-put_row g r k f =
      let F = fits_read b bytes h in
      through (λ (l : List ℕ). put_row l g r) (with_row (read_table b) g r) (fits-row (read_table b) F g r f) (write-row (stock_of b) (read_table b) F g r (omega (arith, length-rows b)))

  pub read-put_slot : (s : ℕ) (x : Slot) → 1 ≤ s → s ≤ slots_of b → SlotFits x → read_table (put_slot b s x) ≡ with_slot (read_table b) s x
  read-put_slot s x l k f =
      let F = fits_read b bytes h in
      through (λ (l : List ℕ). put_slot l s x) (with_slot (read_table b) s x) (fits-slot (read_table b) F s x f) (write-slot (stock_of b) (read_table b) F s x l (omega (arith, length-slots b)) f)

  pub read-put_next : (s n : ℕ) → 1 ≤ s → s ≤ slots_of b → n < 256 ^ 2 → read_table (put_next b s n) ≡ with_slot (read_table b) s (with_next (slot_at (read_table b).slots s) n)
  read-put_next s n l k f =
      let F = fits_read b bytes h in
      through (λ (l : List ℕ). put_next l s n) (with_slot (read_table b) s (with_next (slot_at (read_table b).slots s) n))
      (fits-slot (read_table b) F s (with_next (slot_at (read_table b).slots s) n) (next_fits (read_table b) F s n f)) (write-next (stock_of b) (read_table b) F s n l (omega (arith, length-slots b)))

  pub read-put_free : (f : ℕ) → f < 256 ^ 2 → read_table (put_free b f) ≡ with_free (read_table b) f
  read-put_free f k =
      let F = fits_read b bytes h in
      through (λ (l : List ℕ). put_free l f) (with_free (read_table b) f) (fits-free (read_table b) F f k) (write-free (stock_of b) (read_table b) F f)
