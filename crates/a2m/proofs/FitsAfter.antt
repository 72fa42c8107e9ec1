-- The image after an accepted call fits its bytes, if the one before did and the call's numbers have their widths.
use Prim.Native.Nat.{ℕ, zero, suc, ◌+◌, ◌-◌, ◌^◌, ◌<◌}
use mathlib.Core.Path.{◌≡◌, refl}
use mathlib.Core.Logic.{◌≢◌}
use mathlib.Core.List.{List}
use mathlib.Core.Bool.{Bool, true, false, cond, not}
use mathlib.Core.Option.{Option, none, some}
use native.Mathlib.Omega.{arith}
use lib.ListN.{length, get_or, length-set}
use lib.Dec.{eqb, leb}
use borrow.Author.Tests.{eqb-true, eqb-false, leb-false, not-false}
use Rattle.octets.proofs.Tests.{or-none}
use Rattle.layout.specs.declared.Row.{Row}
use Rattle.layout.specs.Image.{Entry, Slot, Image, free_slot, fresh_row, slot_at, set_slot}
use Rattle.layout.specs.Changes.{with_next, advanced_row, truncated_row}
use Rattle.layout.specs.Fits.{RowFits, SlotFits, Fits}
use Rattle.layout.proofs.ListLaws.{every_set}
use Rattle.layout.proofs.CellLaws.{free-fits}
use Rattle.table.specs.Free.{joint}
use Rattle.a2m.specs.Call.{Call, append, advance, truncate, lookup, end, Wide}
use Rattle.a2m.specs.NewEntry.{new_entry}
use Rattle.a2m.specs.ImageCalls.{row_in, wrong_length, spent, image_refusal, changed, joined, first_of, held_slot, put, previous_in, release, releases, lowered, image_done, image_accept, image_step}
use Rattle.a2m.proofs.Clear.{Clear, clear}
use Rattle.entry.proofs.DigestLaws.{length-entry_digest}
use Rattle.a2m.proofs.Moves.{length-joined}

abbrev pub SlotsFit : List Slot → Type 0
SlotsFit slots = (i : ℕ) → SlotFits (get_or slots i (free_slot 0))

pub slot-fits : (slots : List Slot) → SlotsFit slots → (s : ℕ) → SlotFits (slot_at slots s)
unfolding slot_at
slot-fits slots h zero = free-fits 0 (omega arith)
slot-fits slots h (suc i) = h i

set-fits : (slots : List Slot) → SlotsFit slots → (t : ℕ) (x : Slot) → SlotFits x → SlotsFit (set_slot slots t x)
unfolding set_slot
set-fits slots h zero x k = h
set-fits slots h (suc i) x k = every_set SlotFits slots i x (free_slot 0) h k

next_fits : (x : Slot) (t : ℕ) → SlotFits x → t < 256 ^ 2 → SlotFits (with_next x t)
next_fits x t h k = record { owner = h.owner; next = k; position = h.position; value = h.value; digest = h.digest }

joined-fits : (slots : List Slot) → SlotsFit slots → (t last : ℕ) (x : Slot) → t < 256 ^ 2 → SlotFits x → SlotsFit (joined slots t last x)
unfolding joined
joined-fits slots h t last x k hx = go (eqb last 0)
  where
    go : (b : Bool) → SlotsFit (cond b (set_slot slots t x) (set_slot (set_slot slots t x) last (with_next (slot_at slots last) t)))
    go true = set-fits slots h t x hx
    go false = set-fits (set_slot slots t x) (set-fits slots h t x hx) last (with_next (slot_at slots last) t) (next_fits (slot_at slots last) t (slot-fits slots h last) k)

pub first_fits : (last first t : ℕ) → first < 256 ^ 2 → t < 256 ^ 2 → first_of last first t < 256 ^ 2
first_fits last first t h k = go (eqb last 0)
  where
    go : (b : Bool) → cond b t first < 256 ^ 2
    go true = k
    go false = h

-- another first free slot, row and slots
changed-fits : (m : Image) → Fits m → (free g : ℕ) (r : Row) (slots : List Slot) → free < 256 ^ 2 → RowFits r → length slots ≡ length m.slots → SlotsFit slots → Fits (changed m free g r slots)
changed-fits m f free g r slots hf hr hl hs = record {
  logs = rw (length-set m.rows g r) f.logs;
  count = rw hl f.count;
  keeper = f.keeper;
  free = hf;
  key = f.key;
  rows = every_set RowFits m.rows g r (fresh_row 0) f.rows hr;
  slots = hs;
}

put-fits : (m : Image) → Fits m → (g : ℕ) → g < length m.rows → (e : Entry) → e.position < 256 ^ 8 → length e.value ≡ 32 → length e.digest ≡ 32 → Fits (put m g e)
unfolding put advanced_row
put-fits m f g g_g e hp hv hd =
    let r = f.rows g in
    changed-fits m f _ g _ _ (slot-fits m.slots f.slots m.free).next
    (record { low = r.low; high = hp; first = first_fits (row_in m g).last (row_in m g).first m.free r.first f.free; last = f.free; reserve = r.reserve })
    (length-joined m.slots m.free (row_in m g).last (held_slot g e))
    (joined-fits m.slots f.slots m.free (row_in m g).last (held_slot g e) f.free
    (record { owner = let l = f.logs in omega arith; next = omega arith; position = hp; value = hv; digest = hd }))

release-fits : (m : Image) → Fits m → (g : ℕ) → Fits (release m g)
unfolding release truncated_row
release-fits m f g =
    let r = f.rows g in
    changed-fits m f _ g _ _ (first_fits (joint m) m.free (row_in m g).first f.free r.first)
    (record { low = r.low; high = r.high; first = (slot-fits m.slots f.slots (row_in m g).first).next; last = r.last; reserve = r.reserve })
    (length-joined m.slots (row_in m g).first (joint m) (free_slot 0))
    (joined-fits m.slots f.slots (row_in m g).first (joint m) (free_slot 0) r.first (free-fits 0 (omega arith)))

releases-fits : (k n : ℕ) (m : Image) → Fits m → (g : ℕ) → Fits (releases k n m g)
unfolding releases
releases-fits zero n m f g = f
releases-fits (suc k) n m f g = go (leb n (slot_at m.slots (row_in m g).first).position) (releases-fits k n (release m g) (release-fits m f g) g)
  where
    go : (b : Bool) → Fits (releases k n (release m g) g) → Fits (elim b [ true ↦ m | false ↦ releases k n (release m g) g ])
    go true h = f
    go false h = h

lowered-fits : (m : Image) → Fits m → (g n : ℕ) → n < 256 ^ 8 → Fits (lowered m g n)
unfolding lowered truncated_row
lowered-fits m f g n h =
    let r = f.rows g in
    changed-fits m f m.free g _ m.slots f.free (record { low = h; high = r.high; first = r.first; last = r.last; reserve = r.reserve }) refl f.slots

is32 : (x : List ℕ) → not (eqb (length x) 32) ≡ false → length x ≡ 32
is32 x h = eqb-true (length x) 32 (not-false (eqb (length x) 32) h)

pub accept-fits : (torn : Bool) (m : Image) → Fits m → (call : Call) → Wide call → Clear torn m call → Fits (image_accept m call).state
unfolding image_accept image_done wrong_length spent
accept-fits torn m f (append g x) w c =
    let h = (f.rows g).high in
    let n : (row_in m g).high ≢ 2 ^ 64 - 1 = eqb-false (row_in m g).high (2 ^ 64 - 1) c.room in
    put-fits m f g (leb-false (length m.rows) g c.log) (new_entry ((row_in m g).high + 1) x (previous_in m g)) (omega arith) (is32 x c.sized) (length-entry_digest ((row_in m g).high + 1) x (previous_in m g))
accept-fits torn m f (advance g n d x) w c =
    put-fits m f g (leb-false (length m.rows) g c.log) (new_entry n x d) w (is32 x (or-none (not (eqb (length d) 32)) (not (eqb (length x) 32)) c.sized).1) (length-entry_digest n x d)
accept-fits torn m f (truncate g n) w c = lowered-fits (releases (length m.slots) n m g) (releases-fits (length m.slots) n m f g) g n w
accept-fits torn m f (lookup g n c k) w h = f
accept-fits torn m f (end g c k) w h = f

pub step_fits : (m : Image) → Fits m → (call : Call) → Wide call → Fits (image_step m call).state
unfolding image_step image_refusal
step_fits m f call w = go (image_refusal m call) refl
  where
    go : (r : Option ℕ) → image_refusal m call ≡ r → Fits (image_step m call).state
    go none e = rw (image_step, e) (accept-fits _ m f call w (clear _ m call e))
    go (some k) e = rw (image_step, e) f
