-- Laws for code that writes a carried table: the rows one after the other, and the slots at once.
use Prim.Native.Nat.{ℕ, ◌-◌, ◌*◌, ◌≤◌}
use mathlib.Core.Path.{◌≡◌, sym, ap, ap₂, ◌∙◌}
use mathlib.Core.List.{List}
use mathlib.Core.Bool.{true}
use native.Mathlib.Omega.{arith}
use borrow.Rule.Slice.PartMut.{put_mid}
use lib.ListN.{length, take, drop, get_or}
use Rattle.octets.specs.Octets.{Bytes, part, splice}
use Rattle.octets.proofs.Parts.{put_back}
use Rattle.layout.specs.declared.Row.{Row}
use Rattle.layout.specs.Image.{Image, fresh_row, free_slot}
use Rattle.layout.specs.Lists.{flat}
use Rattle.layout.specs.Layout.{plan01, stocked, header_size, row_size, slot_size, row_offset, row_offset_in, table_size, logs_of, slots_of, keeper_of, free_of, key_of, row_bytes, slot_bytes, header_bytes}
use Rattle.layout.specs.Layout01.{cells_of01, read01}
use Rattle.layout.specs.Fits.{Fits, Counted01}
use Rattle.layout.proofs.ListLaws.{length-flat}
use Rattle.layout.proofs.FieldLaws.{length-row_bytes, length-slot_bytes, length-header_bytes}
use Rattle.layout.proofs.CellLaws.{cells-bytes}
use Rattle.layout.proofs.Layout01Laws.{length_rows01, length_slots01}
use Rattle.table.specs.Chains.{last_of}
use Rattle.table.specs.Free.{free_chain, write_table}
use Rattle.table.specs.Whole01.{whole01}
use Rattle.table.specs.Conditions01.{Whole01}
use Rattle.table.proofs.ConditionLaws01.{whole01-exactly, whole01-fits}
use Rattle.table.proofs.WalkLaws.{chain-short}
use Rattle.table.proofs.LinkLaws.{chain-within}
use Rattle.table.proofs.FillLaws.{parts-written}

-- what a whole table tells of its counts
pub whole01-counted : (old : List ℕ) (logs slots : ℕ) → whole01 old ≡ true → logs ≡ logs_of old → slots ≡ slots_of old → Counted01 old logs slots
whole01-counted old logs slots e l s =
    let w : Whole01 old = (whole01-exactly old).0 e in
    let r = w.counts in
    record { logs-are = l; slots-are = s; logs-most = omega (arith, r.logs-most); slots-most = omega (arith, r.slots-most); sized = omega (arith, w.sized) }

pub whole01-long : (old : List ℕ) → whole01 old ≡ true → header_size ≤ length old
whole01-long old e = let w : Whole01 old = (whole01-exactly old).0 e in let r = w.counts in omega (arith, w.sized, r.logs-least, r.slots-least)

module _ (old : List ℕ) (logs slots : ℕ) (c : Counted01 old logs slots) where
  -- the free chain stays in the table
  pub few-free : length (free_chain (read01 old)) ≤ slots
  few-free = omega (arith, chain-short (read01 old).slots 0 (read01 old).free, length_slots01 old, c.slots-are)

  pub last-free : last_of (free_chain (read01 old)) ≤ slots
  last-free = omega (arith, chain-within (read01 old).slots 0 (read01 old).free, length_slots01 old, c.slots-are)

  abbrev rows : List Row
  rows = (read01 old).rows

  pub count : length rows ≡ logs
  count = length_rows01 old ∙ sym c.logs-are

  sizes : (i : ℕ) → length (row_bytes (get_or rows i (fresh_row 0))) ≡ row_size
  sizes i = length-row_bytes (get_or rows i (fresh_row 0))

  module _ (bytes : Bytes old) (e : whole01 old ≡ true) where
    m : Image
    m = read01 old

    fits : Fits m
    unfolding m
    fits = whole01-fits old bytes e

    -- the slots' bytes stay as they are
    slots-bytes : (from : ℕ) → from ≡ row_offset_in plan01 logs → take (length old - from) (drop from old) ≡ flat slot_bytes m.slots
    unfolding m read01 cells_of01
    slots-bytes from f =
        let w : Whole01 old = (whole01-exactly old).0 e in
        let n : length old - row_offset_in plan01 logs ≡ slot_size * slots = omega (arith, c.sized) in
        ap (λ (a : ℕ). take (length old - a) (drop a old)) f
        ∙ ap (λ (k : ℕ). take k (drop (row_offset_in plan01 logs) old)) n
        ∙ ap₂ (λ (g s : ℕ). part old (row_offset_in plan01 g) (slot_size * s)) c.logs-are c.slots-are
        ∙ sym (cells-bytes old (row_offset_in plan01 (logs_of old)) (slots_of old) bytes w.sized w.pads)

    -- header and rows lent one after the other, then the slots put
    pub carry-written : (o h r : List ℕ) (free last : ℕ) → length o ≡ table_size logs slots → length (free_chain (read01 old)) ≡ free → last_of (free_chain (read01 old)) ≡ last
        → h ≡ header_bytes logs slots (keeper_of old) (free_of old) (stocked free last) (key_of old) → r ≡ flat row_bytes (read01 old).rows
        → (from : ℕ) → from ≡ row_offset_in plan01 logs
        → splice (put_mid header_size (row_offset logs - header_size) (put_mid 0 header_size o h) r) (row_offset logs) (take (length old - from) (drop from old)) ≡ write_table (read01 old)
    unfolding write_table m read01
    carry-written o h r free last z f l eh er from w =
        let g : length m.rows ≡ logs = count in
        let n : length m.slots ≡ slots = length_slots01 old ∙ sym c.slots-are in
        let k : length (key_of old) ≡ 32 = fits.key in
        let H : List ℕ = header_bytes logs slots (keeper_of old) (free_of old) (stocked free last) (key_of old) in
        let lr : length (flat row_bytes m.rows) ≡ row_size * logs = length-flat row_bytes row_size (fresh_row 0) m.rows sizes ∙ ap (λ (i : ℕ). row_size * i) g in
        let o₁ : List ℕ = put_mid 0 header_size o h in
        let o₂ : List ℕ = put_mid header_size (row_offset logs - header_size) o₁ r in
        parts-written (stocked (length (free_chain m)) (last_of (free_chain m))) m k (λ i. length-slot_bytes (get_or m.slots i (free_slot 0)) (fits.slots i)) o (z ∙ sym (ap₂ table_size g n))
        (put_back o h H 0 header_size eh (length-header_bytes logs slots (keeper_of old) (free_of old) (stocked free last) (key_of old) k)
        ∙ ap₂ (λ (i j : ℕ). splice o 0 (header_bytes i j (keeper_of old) (free_of old) (stocked free last) (key_of old))) (sym g) (sym n)
        ∙ ap₂ (λ (i j : ℕ). splice o 0 (header_bytes (length m.rows) (length m.slots) (keeper_of old) (free_of old) (stocked i j) (key_of old))) (sym f) (sym l))
        (put_back o₁ r (flat row_bytes m.rows) header_size (row_size * logs) er lr)
        (ap₂ (λ (i : ℕ) (x : List ℕ). splice o₂ (row_offset i) x) (sym g) (slots-bytes from w))
