-- Slots read with their zero bytes: where each stands; they are the slots where those bytes are zero, and only slots with zero bytes have owners below 256.
use Prim.Native.Nat.{ℕ, zero, suc, ◌+◌, ◌-◌, ◌*◌, ◌≤◌, ◌<◌}
use mathlib.Core.Path.{◌≡◌, sym, ap, ap₂, ◌∙◌, subst}
use mathlib.Core.List.{List}
use native.Mathlib.Omega.{arith}
use borrow.Author.Tests.{eq-eqb}
use lib.ListN.{length}
use Rattle.octets.specs.Octets.{part, same, zeros}
use Rattle.octets.proofs.Parts.{part-part, length_part}
use Rattle.octets.proofs.Same.{same-eq}
use Rattle.bigendian.specs.BigEndian.{unbe}
use Rattle.layout.specs.Image.{slot_at, free_slot}
use Rattle.layout.specs.Layout.{plan01, slot_size, row_offset, row_offset_in, logs_of, slots_of, read_slot, cells_from}
use Rattle.layout.specs.Fits.{Counted, Counted01, Slotted}
use Rattle.layout.specs.Strict.{strict_slot, strict_from, strict_cells, strict_cells01}
use Rattle.layout.proofs.ListLaws.{length-tabulate, get_or-tabulate, tabulate-ext}
use Rattle.layout.proofs.TestLaws.{zero-bytes}

module _ (b : List ℕ) (start slots : ℕ) where
  pub length-strict : length (strict_from b start slots) ≡ slots
  unfolding strict_from
  length-strict = length-tabulate slots (λ i. strict_slot (part b (start + slot_size * i) slot_size))

  pub strict-read : (s : ℕ) → 1 ≤ s → s ≤ slots → slot_at (strict_from b start slots) s ≡ strict_slot (part b (start + slot_size * (s - 1)) slot_size)
  unfolding strict_from slot_at
  strict-read zero h k = absurd (omega arith)
  strict-read (suc i) h k =
      let e : suc i - 1 ≡ i = omega arith in
      get_or-tabulate slots (λ j. strict_slot (part b (start + slot_size * j) slot_size)) i (free_slot 0) (omega arith)
      ∙ ap (λ (j : ℕ). strict_slot (part b (start + slot_size * j) slot_size)) (sym e)

-- a table's slots stand behind its rows

pub strict-are : (b : List ℕ) (logs slots start : ℕ) → Counted b logs slots → start ≡ row_offset logs → strict_from b start slots ≡ strict_cells b
unfolding strict_cells
strict-are b logs slots start c e = ap (λ (a : ℕ). strict_from b a slots) e ∙ ap₂ (λ (g s : ℕ). strict_from b (row_offset g) s) c.logs-are c.slots-are

pub strict_are01 : (b : List ℕ) (logs slots : ℕ) → Counted01 b logs slots → strict_from b (row_offset_in plan01 logs) slots ≡ strict_cells01 b
unfolding strict_cells01
strict_are01 b logs slots c = ap₂ (λ (g s : ℕ). strict_from b (row_offset_in plan01 g) s) c.logs-are c.slots-are

pub strict-count : (b : List ℕ) → length (strict_cells b) ≡ slots_of b
unfolding strict_cells
strict-count b = length-strict b (row_offset (logs_of b)) (slots_of b)

pub strict_count01 : (b : List ℕ) → length (strict_cells01 b) ≡ slots_of b
unfolding strict_cells01
strict_count01 b = length-strict b (row_offset_in plan01 (logs_of b)) (slots_of b)

-- one slot's bytes

zero_one : unbe (zeros 1) ≡ 0
unfolding unbe zeros
zero_one = omega arith

slot_same : (l : List ℕ) → part l 1 1 ≡ zeros 1 → strict_slot l ≡ read_slot l
unfolding strict_slot read_slot
slot_same l e =
    let z : unbe (part l 1 1) ≡ 0 = ap unbe e ∙ zero_one in
    let o : unbe (part l 0 1) + 256 * unbe (part l 1 1) ≡ unbe (part l 0 1) = omega arith in
    λ i. record { owner = o i; next = unbe (part l 2 2); position = unbe (part l 4 8); value = part l 12 32; digest = part l 44 32 }

slot-pad : (l : List ℕ) → length l ≡ slot_size → (strict_slot l).owner < 256 → part l 1 1 ≡ zeros 1
unfolding strict_slot
slot-pad l h k =
    let z : unbe (part l 1 1) ≡ 0 = omega arith in
    let n : length (part l 1 1) ≡ 1 = length_part l 1 1 (omega arith) in
    same-eq (part l 1 1) (zeros 1) (ap (λ (j : ℕ). same (part l 1 1) (zeros j)) (sym n) ∙ sym (zero-bytes (part l 1 1)) ∙ eq-eqb (unbe (part l 1 1)) 0 z)

module _ (b : List ℕ) (start slots : ℕ) where
  -- slots whose zero bytes are zero
  pub strict_same : ((i : ℕ) → i < slots → part b (start + slot_size * i + 1) 1 ≡ zeros 1) → strict_from b start slots ≡ cells_from b start slots
  unfolding strict_from cells_from
  strict_same pads =
      tabulate-ext slots (λ i. strict_slot (part b (start + slot_size * i) slot_size)) (λ i. read_slot (part b (start + slot_size * i) slot_size))
      (λ i k. slot_same (part b (start + slot_size * i) slot_size) (part-part b (start + slot_size * i) slot_size 1 1 (omega arith) ∙ pads i k))

  -- and slots with owners that they can have
  pub strict-pads : Slotted b start slots → ((s : ℕ) → 1 ≤ s → s ≤ slots → (slot_at (strict_from b start slots) s).owner < 256) → (i : ℕ) → i < slots → part b (start + slot_size * i + 1) 1 ≡ zeros 1
  strict-pads c owners i k =
      let z : suc i - 1 ≡ i = omega arith in
      let fits : length (part b (start + slot_size * i) slot_size) ≡ slot_size = length_part b (start + slot_size * i) slot_size (omega (arith, c.sized)) in
      let o : (strict_slot (part b (start + slot_size * (suc i - 1)) slot_size)).owner < 256 = subst (λ x. x.owner < 256) (strict-read b start slots (suc i) (omega arith) (omega arith)) (owners (suc i) (omega arith) (omega arith)) in
      sym (part-part b (start + slot_size * i) slot_size 1 1 (omega arith))
      ∙ slot-pad (part b (start + slot_size * i) slot_size) fits (subst (λ (j : ℕ). (strict_slot (part b (start + slot_size * j) slot_size)).owner < 256) z o)
