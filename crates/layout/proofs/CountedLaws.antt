-- A table's counts stand in its header's first bytes, so that writing a row, a slot, a next or the first free slot keeps them.
use Rattle.std.proofs.Common.{ℕ, ◌+◌, ◌≤◌, ◌<◌, ◌≡◌, List, length, arith, sym, ap, ◌∙◌}
use Rattle.octets.specs.Octets.{splice}
use Rattle.octets.proofs.Parts.{length-splice, part-splice-before}
use Rattle.bigendian.specs.BigEndian.{be, unbe}
use Rattle.bigendian.proofs.Laws.{length-be}
use Rattle.layout.specs.declared.Row.{Row}
use Rattle.layout.specs.Image.{Slot}
use Rattle.layout.specs.Layout.{logs_of, slots_of, slot_size, free_offset, row_offset, slot_offset, next_offset, row_bytes, slot_bytes, put_row, put_slot, put_next, put_free}
use Rattle.layout.specs.Fits.{Counted}
use Rattle.layout.proofs.FieldLaws.{length-row_bytes}

module _ (b : List ℕ) (logs slots : ℕ) (c : Counted b logs slots) where
  counted-splice : (at : ℕ) (x : List ℕ) → 8 ≤ at → at + length x ≤ length b → Counted (splice b at x) logs slots
  unfolding logs_of slots_of
  counted-splice at x h k =
      record {
        logs-are = c.logs-are ∙ ap unbe (sym (part-splice-before b x at k 4 1 (omega arith)));
        slots-are = c.slots-are ∙ ap unbe (sym (part-splice-before b x at k 6 2 (omega arith)));
        logs-most = c.logs-most;
        slots-most = c.slots-most;
        sized = length-splice b x at k ∙ c.sized;
      }

  pub counted-row : (g : ℕ) (r : Row) → g < logs → Counted (put_row b g r) logs slots
  unfolding put_row
  counted-row g r k = counted-splice (row_offset g) (row_bytes r) (omega arith) (omega (arith, length-row_bytes r, c.sized))

  pub counted-slot : (s : ℕ) (x : Slot) → length (slot_bytes x) ≡ slot_size → 1 ≤ s → s ≤ slots → Counted (put_slot b s x) logs slots
  unfolding put_slot
  counted-slot s x e l k = counted-splice (slot_offset (logs_of b) s) (slot_bytes x) (omega arith) (omega (arith, c.sized, c.logs-are))

  pub counted-next : (s n : ℕ) → 1 ≤ s → s ≤ slots → Counted (put_next b s n) logs slots
  unfolding put_next
  counted-next s n l k = counted-splice (next_offset (logs_of b) s) (be 2 n) (omega arith) (omega (arith, length-be 2 n, c.sized, c.logs-are))

  pub counted-free : (f : ℕ) → Counted (put_free b f) logs slots
  unfolding put_free
  counted-free f = counted-splice free_offset (be 2 f) (omega arith) (omega (arith, length-be 2 f, c.sized))
