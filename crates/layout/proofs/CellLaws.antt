-- Slots on end, the same in every layout: read off bytes, and written behind bytes.
use Prim.Native.Nat.{ℕ, zero, suc, ◌+◌, ◌-◌, ◌*◌, ◌^◌, ◌≤◌, ◌<◌}
use mathlib.Core.Path.{◌≡◌, sym, ap, ◌∙◌}
use mathlib.Core.List.{List, ◌++◌}
use native.Mathlib.Omega.{arith}
use lib.ListN.{length, get_or}
use Rattle.octets.specs.Octets.{Bytes, part, zeros}
use Rattle.octets.proofs.Parts.{length_part, part-part, bytes-part}
use Rattle.octets.proofs.Zeros.{length-zeros}
use Rattle.bigendian.proofs.Laws.{unbe-part-lt}
use Rattle.layout.specs.Image.{Slot, slot_at, free_slot}
use Rattle.layout.specs.Lists.{flat}
use Rattle.layout.specs.Layout.{Plan, row_offset_in, slot_size, read_slot, slot_bytes, cells_from}
use Rattle.layout.specs.Fits.{SlotFits, CountedIn, Slotted}
use Rattle.layout.proofs.ListLaws.{length-tabulate, get_or-tabulate, tabulate-ext, tabulate-get_or, every-tabulate, length-flat, part-flat, flat-tabulate}
use Rattle.layout.proofs.FieldLaws.{length-slot_bytes, skip, read-slot, write-slot, pad-written}

pub free-fits : (n : ℕ) → n < 256 ^ 2 → SlotFits (free_slot n)
free-fits n h = record { owner = omega arith; next = h; position = omega arith; value = length-zeros 32; digest = length-zeros 32 }

slot-fits : (b : List ℕ) → Bytes b → length b ≡ slot_size → SlotFits (read_slot b)
unfolding read_slot
slot-fits b h l =
    record {
      owner = unbe-part-lt b 0 1 h;
      next = unbe-part-lt b 2 2 h;
      position = unbe-part-lt b 4 8 h;
      value = length_part b 12 32 (omega arith);
      digest = length_part b 44 32 (omega arith);
    }

-- a table's slots stand behind its rows
pub slotted : (p : Plan) (b : List ℕ) (logs slots start : ℕ) → CountedIn p b logs slots → start ≡ row_offset_in p logs → Slotted b start slots
slotted p b logs slots start c e = record { slots-most = c.slots-most; sized = c.sized ∙ ap (λ (a : ℕ). a + slot_size * slots) (sym e) }

-- read

module _ (b : List ℕ) (start slots : ℕ) where
  pub length-cells : length (cells_from b start slots) ≡ slots
  unfolding cells_from
  length-cells = length-tabulate slots (λ i. read_slot (part b (start + slot_size * i) slot_size))

  pub cell-read : (s : ℕ) → 1 ≤ s → s ≤ slots → slot_at (cells_from b start slots) s ≡ read_slot (part b (start + slot_size * (s - 1)) slot_size)
  unfolding cells_from slot_at
  cell-read zero h k = absurd (omega arith)
  cell-read (suc i) h k =
      let e : suc i - 1 ≡ i = omega arith in
      get_or-tabulate slots (λ j. read_slot (part b (start + slot_size * j) slot_size)) i (free_slot 0) (omega arith)
      ∙ ap (λ (j : ℕ). read_slot (part b (start + slot_size * j) slot_size)) (sym e)

  module _ (bytes : Bytes b) (sized : length b ≡ start + slot_size * slots) where
    cell-size : (i : ℕ) → i < slots → length (part b (start + slot_size * i) slot_size) ≡ slot_size
    cell-size i k = length_part b (start + slot_size * i) slot_size (omega arith)

    pub cells_fit : (i : ℕ) → SlotFits (get_or (cells_from b start slots) i (free_slot 0))
    unfolding cells_from
    cells_fit =
        every-tabulate SlotFits slots (λ i. read_slot (part b (start + slot_size * i) slot_size)) (free_slot 0) (free-fits 0 (omega arith))
        (λ i k. slot-fits (part b (start + slot_size * i) slot_size) (bytes-part b (start + slot_size * i) slot_size bytes) (cell-size i k))

    -- with their zero bytes they write the bytes that they were read off
    pub cells-bytes : ((i : ℕ) → i < slots → part b (start + slot_size * i + 1) 1 ≡ zeros 1) → flat slot_bytes (cells_from b start slots) ≡ part b start (slot_size * slots)
    unfolding cells_from
    cells-bytes pads =
        flat-tabulate slot_bytes slot_size (free_slot 0) b slots start (λ i. read_slot (part b (start + slot_size * i) slot_size))
        (λ i k. write-slot (part b (start + slot_size * i) slot_size) (bytes-part b (start + slot_size * i) slot_size bytes) (cell-size i k) (part-part b (start + slot_size * i) slot_size 1 1 (omega arith) ∙ pads i k))

-- written behind the bytes p

module _ (p : List ℕ) (start : ℕ) (h : length p ≡ start) (slots : List Slot) (fits : (i : ℕ) → SlotFits (get_or slots i (free_slot 0))) where
  slot-lengths : (i : ℕ) → length (slot_bytes (get_or slots i (free_slot 0))) ≡ slot_size
  slot-lengths i = length-slot_bytes (get_or slots i (free_slot 0)) (fits i)

  cell-written : (i : ℕ) → i < length slots → part (p ++ flat slot_bytes slots) (start + slot_size * i) slot_size ≡ slot_bytes (get_or slots i (free_slot 0))
  cell-written i k = skip p (flat slot_bytes slots) start (slot_size * i) slot_size h ∙ part-flat slot_bytes slot_size (free_slot 0) slots i slot-lengths k

  pub length-cells-written : length (flat slot_bytes slots) ≡ slot_size * length slots
  length-cells-written = length-flat slot_bytes slot_size (free_slot 0) slots slot-lengths

  pub cells-written : cells_from (p ++ flat slot_bytes slots) start (length slots) ≡ slots
  unfolding cells_from
  cells-written =
      tabulate-ext (length slots) (λ i. read_slot (part (p ++ flat slot_bytes slots) (start + slot_size * i) slot_size)) (λ i. get_or slots i (free_slot 0))
      (λ i k. ap read_slot (cell-written i k) ∙ read-slot (get_or slots i (free_slot 0)) (fits i))
      ∙ tabulate-get_or slots (free_slot 0)

  pub pads-written : (i : ℕ) → i < length slots → part (p ++ flat slot_bytes slots) (start + slot_size * i + 1) 1 ≡ zeros 1
  pads-written i k =
      sym (part-part (p ++ flat slot_bytes slots) (start + slot_size * i) slot_size 1 1 (omega arith))
      ∙ ap (λ (l : List ℕ). part l 1 1) (cell-written i k)
      ∙ pad-written (get_or slots i (free_slot 0))
