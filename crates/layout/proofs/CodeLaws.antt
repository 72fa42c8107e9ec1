-- What the functions of this crate read and write, over plain values: one law for each kind of place.
use Prim.Native.Nat.{ℕ, ◌+◌, ◌-◌, ◌≤◌, ◌<◌}
use mathlib.Core.Path.{◌≡◌, refl, sym, ap, ◌∙◌}
use mathlib.Core.List.{List, ◌++◌, append_assoc}
use native.Mathlib.Nat.{mod-eq_of_lt}
use native.Mathlib.Omega.{arith}
use borrow.Rule.Slice.PartMut.{put_mid}
use lib.ListN.{length, set, length-append}
use Rattle.octets.specs.Octets.{part, splice, zeros}
use Rattle.octets.proofs.Parts.{part-part, put_back, splice-then, splice-whole}
use Rattle.bigendian.specs.BigEndian.{be}
use Rattle.bigendian.proofs.Laws.{length-be, put_byte}
use Rattle.layout.specs.declared.Row.{Row}
use Rattle.layout.specs.Image.{Slot, slot_at, row_at}
use Rattle.layout.specs.Changes.{slot_of}
use Rattle.layout.specs.Layout.{Stock, mark, mark_number, header_size, row_size, slot_size, row_offset, slot_offset, read_row, row_bytes, read_slot, slot_bytes, read_table, count_bytes, header_bytes, put_row, put_slot, put_next}
use Rattle.layout.specs.Fits.{Counted}
use Rattle.layout.proofs.FieldLaws.{length-row_bytes}
use Rattle.octets.proofs.Zeros.{length-zeros}
use Rattle.layout.proofs.TableLaws.{row_read, slot_read}

-- reading

module _ (b : List ℕ) (logs slots : ℕ) (h : Counted b logs slots) (at : ℕ) where
  pub row-there : (g : ℕ) → at ≡ row_offset g → g < logs → read_row (part b at row_size) ≡ row_at (read_table b).rows g
  row-there g e k = ap read_row (ap (λ (a : ℕ). part b a row_size) e) ∙ sym (row_read b g (omega (arith, h.logs-are)))

  pub slot-there : (s : ℕ) → at ≡ slot_offset logs s → 1 ≤ s → s ≤ slots → read_slot (part b at slot_size) ≡ slot_at (read_table b).slots s
  slot-there s e l k = ap read_slot (ap (λ (a : ℕ). part b a slot_size) (e ∙ ap (λ (g : ℕ). slot_offset g s) h.logs-are)) ∙ sym (slot_read b s l (omega (arith, h.slots-are)))

  pub value_there : (s : ℕ) → at ≡ slot_offset logs s → 1 ≤ s → s ≤ slots → part b (at + 12) 32 ≡ (slot_at (read_table b).slots s).value
  unfolding read_slot
  value_there s e l k = sym (part-part b at slot_size 12 32 (omega arith)) ∙ ap (λ (x : Slot). x.value) (slot-there s e l k)

  pub digest-there : (s : ℕ) → at ≡ slot_offset logs s → 1 ≤ s → s ≤ slots → part b (at + 44) 32 ≡ (slot_at (read_table b).slots s).digest
  unfolding read_slot
  digest-there s e l k = sym (part-part b at slot_size 44 32 (omega arith)) ∙ ap (λ (x : Slot). x.digest) (slot-there s e l k)

  -- writing into a part of the table, y being what came back

  pub row_put : (g : ℕ) (y : List ℕ) (r : Row) → at ≡ row_offset g → y ≡ row_bytes r → put_mid at (at + row_size - at) b y ≡ put_row b g r
  unfolding put_row
  row_put g y r e w = put_back b y (row_bytes r) at row_size w (length-row_bytes r) ∙ ap (λ (a : ℕ). splice b a (row_bytes r)) e

  pub slot-put : (s : ℕ) (y : List ℕ) (x : Slot) → at ≡ slot_offset logs s → length y ≡ slot_size → y ≡ slot_bytes x → put_mid at (at + slot_size - at) b y ≡ put_slot b s x
  unfolding put_slot
  slot-put s y x e l w =
      put_back b y (slot_bytes x) at slot_size w (sym (ap length w) ∙ l)
      ∙ ap (λ (a : ℕ). splice b a (slot_bytes x)) (e ∙ ap (λ (g : ℕ). slot_offset g s) h.logs-are)

  pub next-put : (s n : ℕ) (y : List ℕ) → at ≡ slot_offset logs s → y ≡ splice b (at + 2) (be 2 n) → y ≡ put_next b s n
  unfolding put_next
  next-put s n y e w = w ∙ ap (λ (a : ℕ). splice b (a + 2) (be 2 n)) (e ∙ ap (λ (g : ℕ). slot_offset g s) h.logs-are)

-- fields written one after the other over the whole of o

pub byte_put : (o : List ℕ) (at n : ℕ) → at + 1 ≤ length o → n < 256 → set o at n ≡ splice o at (be 1 n)
byte_put o at n h k = ap (set o at) (sym (mod-eq_of_lt k)) ∙ put_byte at n o h

-- the constants, as numbers

pub zero_one : be 1 0 ≡ zeros 1
unfolding be zeros
zero_one = refl

pub mark-four : be 4 mark_number ≡ mark
unfolding be
mark-four = refl

pub row-fields : (o : List ℕ) {o₁ o₂ o₃ o₄ o₅ : List ℕ} (r : Row) → length o ≡ row_size
    → o₁ ≡ splice o 0 (be 8 r.low) → o₂ ≡ splice o₁ 8 (be 8 r.high) → o₃ ≡ splice o₂ 16 (be 2 r.first) → o₄ ≡ splice o₃ 18 (be 2 r.last) → o₅ ≡ splice o₄ 20 (be 2 r.reserve)
    → o₅ ≡ row_bytes r
unfolding row_bytes
row-fields o {o₁} {o₂} {o₃} {o₄} {o₅} r h e₁ e₂ e₃ e₄ e₅ =
    let x₁ : List ℕ = be 8 r.low in
    let x₂ : List ℕ = be 8 r.high in
    let x₃ : List ℕ = be 2 r.first in
    let x₄ : List ℕ = be 2 r.last in
    let x₅ : List ℕ = be 2 r.reserve in
    let l₁ = length-be 8 r.low in
    let l₂ = length-be 8 r.high in
    let l₃ = length-be 2 r.first in
    let l₄ = length-be 2 r.last in
    let l₅ = length-be 2 r.reserve in
    let w₂ : o₂ ≡ splice o 0 (x₁ ++ x₂) = splice-then o x₁ x₂ 8 e₁ l₁ (omega arith) e₂ in
    let w₃ : o₃ ≡ splice o 0 ((x₁ ++ x₂) ++ x₃) = splice-then o (x₁ ++ x₂) x₃ 16 w₂ (simp (length-append, length-be)) (omega arith) e₃ in
    let w₄ : o₄ ≡ splice o 0 (((x₁ ++ x₂) ++ x₃) ++ x₄) = splice-then o ((x₁ ++ x₂) ++ x₃) x₄ 18 w₃ (simp (length-append, length-be)) (omega arith) e₄ in
    let w₅ : o₅ ≡ splice o 0 ((((x₁ ++ x₂) ++ x₃) ++ x₄) ++ x₅) = splice-then o (((x₁ ++ x₂) ++ x₃) ++ x₄) x₅ 20 w₄ (simp (length-append, length-be)) (omega arith) e₅ in
    w₅ ∙ splice-whole o ((((x₁ ++ x₂) ++ x₃) ++ x₄) ++ x₅) (simp (length-append, length-be) (omega arith)) ∙ simp append_assoc

pub slot-fields : (o : List ℕ) {o₁ o₂ o₃ o₄ o₅ o₆ : List ℕ} (w n p : ℕ) (v d : List ℕ) → length v ≡ 32 → length d ≡ 32 → length o ≡ slot_size
    → o₁ ≡ splice o 0 (be 1 w) → o₂ ≡ splice o₁ 1 (be 1 0) → o₃ ≡ splice o₂ 2 (be 2 n) → o₄ ≡ splice o₃ 4 (be 8 p) → o₅ ≡ splice o₄ 12 v → o₆ ≡ splice o₅ 44 d
    → o₆ ≡ slot_bytes (slot_of w n p v d)
unfolding slot_bytes
slot-fields o {o₁} {o₂} {o₃} {o₄} {o₅} {o₆} w n p v d lv ld h e₁ e₂ e₃ e₄ e₅ e₆ =
    let x₁ : List ℕ = be 1 w in
    let x₂ : List ℕ = zeros 1 in
    let x₃ : List ℕ = be 2 n in
    let x₄ : List ℕ = be 8 p in
    let l₁ = length-be 1 w in
    let l₂ = length-zeros 1 in
    let l₃ = length-be 2 n in
    let l₄ = length-be 8 p in
    let w₂ : o₂ ≡ splice o 0 (x₁ ++ x₂) = splice-then o x₁ x₂ 1 e₁ l₁ (omega arith) (e₂ ∙ ap (splice o₁ 1) zero_one) in
    let w₃ : o₃ ≡ splice o 0 ((x₁ ++ x₂) ++ x₃) = splice-then o (x₁ ++ x₂) x₃ 2 w₂ (simp (length-append, l₁, l₂)) (omega arith) e₃ in
    let w₄ : o₄ ≡ splice o 0 (((x₁ ++ x₂) ++ x₃) ++ x₄) = splice-then o ((x₁ ++ x₂) ++ x₃) x₄ 4 w₃ (simp (length-append, l₁, l₂, l₃)) (omega arith) e₄ in
    let w₅ : o₅ ≡ splice o 0 ((((x₁ ++ x₂) ++ x₃) ++ x₄) ++ v) = splice-then o (((x₁ ++ x₂) ++ x₃) ++ x₄) v 12 w₄ (simp (length-append, l₁, l₂, l₃, l₄)) (omega arith) e₅ in
    let w₆ : o₆ ≡ splice o 0 (((((x₁ ++ x₂) ++ x₃) ++ x₄) ++ v) ++ d) = splice-then o ((((x₁ ++ x₂) ++ x₃) ++ x₄) ++ v) d 44 w₅ (simp (length-append, l₁, l₂, l₃, l₄, lv)) (omega arith) e₆ in
    w₆ ∙ splice-whole o (((((x₁ ++ x₂) ++ x₃) ++ x₄) ++ v) ++ d) (simp (length-append, l₁, l₂, l₃, l₄, lv, ld) (omega arith)) ∙ simp append_assoc

pub count-fields : (o : List ℕ) {o₁ o₂ o₃ o₄ : List ℕ} (g s : ℕ) → length o ≡ header_size → o₁ ≡ splice o 0 (be 4 mark_number) → o₂ ≡ splice o₁ 4 (be 1 g) → o₃ ≡ splice o₂ 5 (be 1 0) → o₄ ≡ splice o₃ 6 (be 2 s)
    → o₄ ≡ splice o 0 (count_bytes g s)
count-fields o {o₁} {o₂} {o₃} {o₄} g s h e₁ e₂ e₃ e₄ =
    let x₂ : List ℕ = be 1 g in
    let x₃ : List ℕ = zeros 1 in
    let x₄ : List ℕ = be 2 s in
    let l₂ = length-be 1 g in
    let l₃ = length-zeros 1 in
    let l₄ = length-be 2 s in
    let w₁ : o₁ ≡ splice o 0 mark = e₁ ∙ ap (splice o 0) mark-four in
    let w₂ : o₂ ≡ splice o 0 (mark ++ x₂) = splice-then o mark x₂ 4 w₁ refl (omega arith) e₂ in
    let w₃ : o₃ ≡ splice o 0 ((mark ++ x₂) ++ x₃) = splice-then o (mark ++ x₂) x₃ 5 w₂ (simp l₂) (omega arith) (e₃ ∙ ap (splice o₂ 5) zero_one) in
    let w₄ : o₄ ≡ splice o 0 (((mark ++ x₂) ++ x₃) ++ x₄) = splice-then o ((mark ++ x₂) ++ x₃) x₄ 6 w₃ (simp (length-append, l₂, l₃)) (omega arith) e₄ in
    w₄ ∙ ap (splice o 0) (simp append_assoc)

pub header-fields : (o : List ℕ) {o₁ o₂ o₃ o₄ o₅ o₆ : List ℕ} (g s k f : ℕ) (stock : Stock) (key : List ℕ) → length key ≡ 32 → length o ≡ header_size
    → o₁ ≡ splice o 0 (count_bytes g s) → o₂ ≡ splice o₁ 8 (be 8 k) → o₃ ≡ splice o₂ 16 (be 2 f) → o₄ ≡ splice o₃ 18 (be 2 stock.count) → o₅ ≡ splice o₄ 20 key → o₆ ≡ splice o₅ 52 (be 2 stock.last)
    → o₆ ≡ header_bytes g s k f stock key
unfolding header_bytes
header-fields o {o₁} {o₂} {o₃} {o₄} {o₅} {o₆} g s k f stock key lk h e₁ e₂ e₃ e₄ e₅ e₆ =
    let x₁ : List ℕ = count_bytes g s in
    let x₂ : List ℕ = be 8 k in
    let x₃ : List ℕ = be 2 f in
    let x₄ : List ℕ = be 2 stock.count in
    let x₆ : List ℕ = be 2 stock.last in
    let l₁ : length x₁ ≡ 8 = simp (length-append, length-be, length-zeros) in
    let l₂ = length-be 8 k in
    let l₃ = length-be 2 f in
    let l₄ = length-be 2 stock.count in
    let l₆ = length-be 2 stock.last in
    let w₂ : o₂ ≡ splice o 0 (x₁ ++ x₂) = splice-then o x₁ x₂ 8 e₁ l₁ (omega arith) e₂ in
    let w₃ : o₃ ≡ splice o 0 ((x₁ ++ x₂) ++ x₃) = splice-then o (x₁ ++ x₂) x₃ 16 w₂ (length-append x₁ x₂ ∙ omega arith) (omega arith) e₃ in
    let q₃ : length ((x₁ ++ x₂) ++ x₃) ≡ 18 = length-append (x₁ ++ x₂) x₃ ∙ omega (arith, length-append x₁ x₂) in
    let w₄ : o₄ ≡ splice o 0 (((x₁ ++ x₂) ++ x₃) ++ x₄) = splice-then o ((x₁ ++ x₂) ++ x₃) x₄ 18 w₃ q₃ (omega arith) e₄ in
    let q₄ : length (((x₁ ++ x₂) ++ x₃) ++ x₄) ≡ 20 = length-append ((x₁ ++ x₂) ++ x₃) x₄ ∙ omega arith in
    let w₅ : o₅ ≡ splice o 0 ((((x₁ ++ x₂) ++ x₃) ++ x₄) ++ key) = splice-then o (((x₁ ++ x₂) ++ x₃) ++ x₄) key 20 w₄ q₄ (omega arith) e₅ in
    let q₅ : length ((((x₁ ++ x₂) ++ x₃) ++ x₄) ++ key) ≡ 52 = length-append (((x₁ ++ x₂) ++ x₃) ++ x₄) key ∙ omega arith in
    let w₆ : o₆ ≡ splice o 0 (((((x₁ ++ x₂) ++ x₃) ++ x₄) ++ key) ++ x₆) = splice-then o ((((x₁ ++ x₂) ++ x₃) ++ x₄) ++ key) x₆ 52 w₅ q₅ (omega arith) e₆ in
    w₆ ∙ splice-whole o (((((x₁ ++ x₂) ++ x₃) ++ x₄) ++ key) ++ x₆) (length-append ((((x₁ ++ x₂) ++ x₃) ++ x₄) ++ key) x₆ ∙ omega arith) ∙ simp append_assoc
