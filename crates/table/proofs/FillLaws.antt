-- Laws for code that writes elements of n bytes one after the other, and the parts of a formatted table.
use Prim.Native.Nat.{ℕ, suc, ◌+◌, ◌-◌, ◌*◌, ◌^◌, ◌≤◌, ◌<◌}
use mathlib.Core.Path.{◌≡◌, refl, sym, ap, ap₂, ◌∙◌}
use mathlib.Core.List.{List, ◌++◌, map, append_assoc}
use mathlib.Core.Bool.{Bool, cond}
use native.Mathlib.Numerals.{add-one}
use native.Mathlib.Omega.{arith}
use borrow.Author.Tests.{lt-ltb, le-ltb}
use borrow.Rule.Slice.PartMut.{put_mid}
use lib.ListN.{length, take, get_or, length-append, length-map, get_or-map}
use Rattle.octets.specs.Octets.{splice}
use Rattle.octets.proofs.Parts.{put_back, splice-then, splice-whole}
use Rattle.bigendian.proofs.Laws.{length-be}
use Rattle.layout.specs.Lists.{flat}
use Rattle.layout.specs.Image.{Slot, Image, row_at, fresh_row, free_slot}
use Rattle.layout.proofs.FillLaws.{fill_none, fill-turn, fill-length, fill_done}
use Rattle.layout.specs.Layout.{header_size, row_size, slot_size, row_offset, table_size, Stock, stocked, row_bytes, slot_bytes, header_bytes, write_with}
use Rattle.layout.proofs.ListLaws.{length-flat, length-tabulate, get_or-tabulate, every-tabulate}
use Rattle.layout.proofs.FieldLaws.{length-row_bytes, length-header_bytes}
use Rattle.octets.proofs.Zeros.{length-zeros}
use Rattle.table.specs.Free.{queued_next, queue}
use Rattle.table.specs.Reserve.{sum}
use Rattle.table.specs.Format.{formatted}
use Rattle.table.proofs.SumLaws.{at-most-sum}

-- the queue's slots

pub length-queue : (slots : ℕ) → length (queue slots) ≡ slots
unfolding queue
length-queue slots = length-tabulate slots (λ i. free_slot (queued_next slots (suc i)))

pub get_or-queue : (slots i : ℕ) → i < slots → get_or (queue slots) i (free_slot 0) ≡ free_slot (queued_next slots (suc i))
unfolding queue
get_or-queue slots i h = get_or-tabulate slots (λ i. free_slot (queued_next slots (suc i))) i (free_slot 0) h

length-free : (n : ℕ) → length (slot_bytes (free_slot n)) ≡ slot_size
unfolding slot_bytes
length-free n = simp (length-append, length-be, length-zeros)

pub queue-sizes : (slots i : ℕ) → length (slot_bytes (get_or (queue slots) i (free_slot 0))) ≡ slot_size
unfolding queue
queue-sizes slots = every-tabulate (λ (s : Slot). length (slot_bytes s) ≡ slot_size) slots (λ i. free_slot (queued_next slots (suc i))) (free_slot 0) (length-free 0) (λ i h. length-free (queued_next slots (suc i)))

-- a reserve that the slots cover fits its field
pub reserve-fits : (reserves : List ℕ) (g : ℕ) → sum reserves ≤ 800 → get_or reserves g 0 < 256 ^ 2
reserve-fits reserves g h = omega (arith, at-most-sum reserves g)

-- the row of log g
pub fresh-row_at : (reserves : List ℕ) (g : ℕ) → row_at (map fresh_row reserves) g ≡ fresh_row (get_or reserves g 0)
fresh-row_at reserves g = get_or-map fresh_row reserves g 0

-- the slots before slot i + 1 written over o, which gives b
pub record SlotsFilled (slots : ℕ) (o b : List ℕ) (i : ℕ) : Type 0 where
  pub room : length o ≡ slot_size * slots
  pub within : i ≤ slots
  pub sized : length b ≡ length o
  pub filled : b ≡ splice o 0 (flat slot_bytes (take i (queue slots)))

pub slots-begin : (slots : ℕ) (o : List ℕ) → length o ≡ slot_size * slots → SlotsFilled slots o o 0
slots-begin slots o z =
    record { room = z; within = omega arith; sized = refl; filled = fill_none slot_bytes slot_size (free_slot 0) (queue slots) (queue-sizes slots) (length-free 0) o }

module _ {slots : ℕ} {o b : List ℕ} {i : ℕ} (t : SlotsFilled slots o b i) where
  room : length o ≡ slot_size * length (queue slots)
  room = t.room ∙ ap (λ (k : ℕ). slot_size * k) (sym (length-queue slots))

  pub slots-on : (y : List ℕ) (next : ℕ) → i < slots → next ≡ queued_next slots (i + 1) → y ≡ slot_bytes (free_slot next) → SlotsFilled slots o (put_mid (slot_size * i) (slot_size * i + slot_size - slot_size * i) b y) (i + 1)
  slots-on y next h q e =
      let l : length (queue slots) ≡ slots = length-queue slots in
      let f =
      fill-turn slot_bytes slot_size (free_slot 0) (queue slots) (queue-sizes slots) (length-free 0) o b y i (omega arith) room t.filled
      (e ∙ ap (λ (n : ℕ). slot_bytes (free_slot n)) (q ∙ ap (queued_next slots) (add-one i)) ∙ ap slot_bytes (sym (get_or-queue slots i h))) in
      record {
        room = t.room;
        within = omega arith;
        sized = fill-length slot_bytes slot_size (free_slot 0) (queue slots) (queue-sizes slots) (length-free 0) o _ (i + 1) (omega arith) room f;
        filled = f;
      }

  pub slots-end : slots ≤ i → b ≡ flat slot_bytes (queue slots)
  slots-end h =
      let l : length (queue slots) ≡ slots = length-queue slots in
      fill_done slot_bytes slot_size (free_slot 0) (queue slots) (queue-sizes slots) (length-free 0) o b i (omega arith) (omega (arith, t.within)) room t.filled

-- the slot after s
pub next_queued : (slots s : ℕ) → s < slots → s + 1 ≡ queued_next slots s
unfolding queued_next
next_queued slots s h = add-one s ∙ sym (ap (λ (t : Bool). cond t (suc s) 0) (lt-ltb s slots h))

pub none_queued : (slots s : ℕ) → slots ≤ s → 0 ≡ queued_next slots s
unfolding queued_next
none_queued slots s h = sym (ap (λ (t : Bool). cond t (suc s) 0) (le-ltb s slots h))

-- header, rows and slots of an image, written one after the other
pub parts-written : (stock : Stock) (m : Image) → length m.key ≡ 32 → ((i : ℕ) → length (slot_bytes (get_or m.slots i (free_slot 0))) ≡ slot_size) → (o : List ℕ) {o₁ o₂ o₃ : List ℕ}
    → length o ≡ table_size (length m.rows) (length m.slots) → o₁ ≡ splice o 0 (header_bytes (length m.rows) (length m.slots) m.keeper m.free stock m.key)
    → o₂ ≡ splice o₁ header_size (flat row_bytes m.rows) → o₃ ≡ splice o₂ (row_offset (length m.rows)) (flat slot_bytes m.slots) → o₃ ≡ write_with stock m
unfolding write_with
parts-written stock m k sizes o {o₁} {o₂} {o₃} e w₁ w₂ w₃ =
    let H : List ℕ = header_bytes (length m.rows) (length m.slots) m.keeper m.free stock m.key in
    let R : List ℕ = flat row_bytes m.rows in
    let S : List ℕ = flat slot_bytes m.slots in
    let lh : length H ≡ header_size = length-header_bytes (length m.rows) (length m.slots) m.keeper m.free stock m.key k in
    let lr : length R ≡ row_size * length m.rows = length-flat row_bytes row_size (fresh_row 0) m.rows (λ i. length-row_bytes (get_or m.rows i (fresh_row 0))) in
    let ls : length S ≡ slot_size * length m.slots = length-flat slot_bytes slot_size (free_slot 0) m.slots sizes in
    let v₂ : o₂ ≡ splice o 0 (H ++ R) = splice-then o H R header_size w₁ lh (omega arith) w₂ in
    let l₂ : length (H ++ R) ≡ row_offset (length m.rows) = length-append H R ∙ omega arith in
    let v₃ : o₃ ≡ splice o 0 ((H ++ R) ++ S) = splice-then o (H ++ R) S (row_offset (length m.rows)) v₂ l₂ (omega arith) w₃ in
    v₃ ∙ splice-whole o ((H ++ R) ++ S) (length-append (H ++ R) S ∙ omega arith) ∙ append_assoc H R S

-- the same of a formatted table, its parts lent one after the other
pub three : (o h r s : List ℕ) (slots keeper : ℕ) (key reserves : List ℕ) → length o ≡ table_size (length reserves) slots → length key ≡ 32
    → h ≡ header_bytes (length reserves) slots keeper 1 (stocked slots slots) key → r ≡ flat row_bytes (map fresh_row reserves) → s ≡ flat slot_bytes (queue slots)
    → put_mid (row_offset (length reserves)) (table_size (length reserves) slots - row_offset (length reserves)) (put_mid header_size (row_offset (length reserves) - header_size) (put_mid 0 header_size o h) r) s
    ≡ write_with (stocked slots slots) (formatted slots keeper key reserves)
unfolding formatted
three o h r s slots keeper key reserves e k eh er es =
    let m : Image = formatted slots keeper key reserves in
    let g : length m.rows ≡ length reserves = length-map reserves fresh_row in
    let n : length m.slots ≡ slots = length-queue slots in
    let R : List ℕ = flat row_bytes m.rows in
    let lr : length R ≡ row_size * length reserves = length-flat row_bytes row_size (fresh_row 0) m.rows (λ i. length-row_bytes (get_or (map fresh_row reserves) i (fresh_row 0))) ∙ ap (λ (i : ℕ). row_size * i) g in
    let ls : length (flat slot_bytes (queue slots)) ≡ slot_size * slots = length-flat slot_bytes slot_size (free_slot 0) (queue slots) (queue-sizes slots) ∙ ap (λ (i : ℕ). slot_size * i) n in
    let o₁ : List ℕ = put_mid 0 header_size o h in
    let o₂ : List ℕ = put_mid header_size (row_offset (length reserves) - header_size) o₁ r in
    parts-written (stocked slots slots) m k (queue-sizes slots) o (e ∙ sym (ap₂ table_size g n))
    (put_back o h (header_bytes (length reserves) slots keeper 1 (stocked slots slots) key) 0 header_size eh (length-header_bytes (length reserves) slots keeper 1 (stocked slots slots) key k)
    ∙ ap₂ (λ (i j : ℕ). splice o 0 (header_bytes i j keeper 1 (stocked slots slots) key)) (sym g) (sym n))
    (put_back o₁ r R header_size (row_size * length reserves) er lr)
    (put_back o₂ s (flat slot_bytes (queue slots)) (row_offset (length reserves)) (slot_size * slots) es ls ∙ ap (λ (i : ℕ). splice o₂ (row_offset i) (flat slot_bytes (queue slots))) (sym g))
