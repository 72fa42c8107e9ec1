-- What document 01's calls leave are bytes, where the key is and the values put are.
use Prim.Native.Nat.{ℕ, zero, suc, ◌+◌}
use mathlib.Core.List.{List, [], ◌∷◌, ◌++◌}
use mathlib.Core.Bool.{Bool, true, false, cond}
use native.Mathlib.Omega.{arith}
use lib.ListN.{length, get_or}
use lib.Dec.{eqb, leb}
use Rattle.octets.specs.Octets.{Bytes, zeros}
use Rattle.octets.proofs.Parts.{bytes-append}
use Rattle.bigendian.specs.BigEndian.{be}
use Rattle.bigendian.proofs.Laws.{bytes-be}
use Rattle.entry.proofs.DigestLaws.{bytes-entry_digest}
use Rattle.layout.specs.declared.Row.{Row}
use Rattle.layout.specs.Image.{Slot, Image, free_slot, slot_at, set_slot}
use Rattle.layout.specs.Changes.{with_next}
use Rattle.layout.specs.Layout.{plan01, slot_bytes}
use Rattle.layout.specs.Layout01.{row_bytes01, header_bytes01, write01}
use Rattle.layout.specs.Lists.{flat}
use Rattle.layout.proofs.ListLaws.{every_set}
use Rattle.table.specs.Free.{joint}
use Rattle.a2m.specs.Call.{Call, append, advance, truncate, lookup, end}
use Rattle.a2m.specs.NewEntry.{new_entry}
use Rattle.a2m.specs.ImageCalls.{row_in, joined, held_slot, put, previous_in, release, releases, lowered, image_done, image_accept}
use Rattle.model.specs.Calls01.{GivesBytes, accept01}
use Rattle.model.proofs.NoReserves.{replicate-zero}

-- ---- images

pub record SlotOctets (s : Slot) : Type 0 where
  pub value : Bytes s.value
  pub digest : Bytes s.digest

abbrev SlotsOctets : List Slot → Type 0
SlotsOctets slots = (i : ℕ) → SlotOctets (get_or slots i (free_slot 0))

-- key, values and digests are bytes
pub record ImageOctets (m : Image) : Type 0 where
  pub key : Bytes m.key
  pub slots : SlotsOctets m.slots

bytes-zeros : (n : ℕ) → Bytes (zeros n)
unfolding zeros
bytes-zeros n i = let e = replicate-zero n i in omega arith

pub free_octets : (n : ℕ) → SlotOctets (free_slot n)
free_octets n = record { value = bytes-zeros 32; digest = bytes-zeros 32 }

slot_octets : (slots : List Slot) → SlotsOctets slots → (s : ℕ) → SlotOctets (slot_at slots s)
unfolding slot_at
slot_octets slots h zero = free_octets 0
slot_octets slots h (suc i) = h i

set_octets : (slots : List Slot) → SlotsOctets slots → (t : ℕ) (x : Slot) → SlotOctets x → SlotsOctets (set_slot slots t x)
unfolding set_slot
set_octets slots h zero x k = h
set_octets slots h (suc i) x k = every_set SlotOctets slots i x (free_slot 0) h k

joined_octets : (slots : List Slot) → SlotsOctets slots → (t last : ℕ) (x : Slot) → SlotOctets x → SlotsOctets (joined slots t last x)
unfolding joined
joined_octets slots h t last x k = go (eqb last 0)
  where
    go : (b : Bool) → SlotsOctets (cond b (set_slot slots t x) (set_slot (set_slot slots t x) last (with_next (slot_at slots last) t)))
    go true = set_octets slots h t x k
    go false = let o = slot_octets slots h last in set_octets (set_slot slots t x) (set_octets slots h t x k) last (with_next (slot_at slots last) t) (record { value = o.value; digest = o.digest })

-- ---- calls on images

module _ (g : ℕ) where
  put-octets : (m : Image) → ImageOctets m → (n : ℕ) (x d : List ℕ) → Bytes x → ImageOctets (put m g (new_entry n x d))
  unfolding put
  put-octets m h n x d k =
      record { key = h.key; slots = joined_octets m.slots h.slots m.free (row_in m g).last (held_slot g (new_entry n x d)) (record { value = k; digest = bytes-entry_digest n x d }) }

  release-octets : (m : Image) → ImageOctets m → ImageOctets (release m g)
  unfolding release
  release-octets m h = record { key = h.key; slots = joined_octets m.slots h.slots (row_in m g).first (joint m) (free_slot 0) (free_octets 0) }

  releases-octets : (k n : ℕ) (m : Image) → ImageOctets m → ImageOctets (releases k n m g)
  unfolding releases
  releases-octets zero n m h = h
  releases-octets (suc k) n m h = go (leb n (slot_at m.slots (row_in m g).first).position) (releases-octets k n (release m g) (release-octets m h))
    where
      go : (b : Bool) → ImageOctets (releases k n (release m g) g) → ImageOctets (elim b [ true ↦ m | false ↦ releases k n (release m g) g ])
      go true r = h
      go false r = r

  lowered-octets : (m : Image) → ImageOctets m → (n : ℕ) → ImageOctets (lowered m g n)
  unfolding lowered
  lowered-octets m h n = record { key = h.key; slots = h.slots }

pub accept_octets : (m : Image) → ImageOctets m → (call : Call) → GivesBytes call → ImageOctets (accept01 m call).state
unfolding accept01 image_accept image_done
accept_octets m h (append g x) k = put-octets g m h ((row_in m g).high + 1) x (previous_in m g) k
accept_octets m h (advance g n d x) k = put-octets g m h n x d k
accept_octets m h (truncate g n) k = lowered-octets g (releases (length m.slots) n m g) (releases-octets g (length m.slots) n m h) n
accept_octets m h (lookup g n c r) k = h
accept_octets m h (end g c r) k = h

-- ---- their bytes

mark_octets : Bytes plan01.mark
mark_octets zero = omega arith
mark_octets (suc zero) = omega arith
mark_octets (suc (suc zero)) = omega arith
mark_octets (suc (suc (suc zero))) = omega arith
mark_octets (suc (suc (suc (suc i)))) = omega arith

rows_octets : (rs : List Row) → Bytes (flat row_bytes01 rs)
unfolding flat row_bytes01
rows_octets [] = λ (i : ℕ). omega arith
rows_octets (r ∷ rs) =
    bytes-append (row_bytes01 r) (flat row_bytes01 rs)
    (bytes-append (be 8 r.low) _ (bytes-be 8 r.low) (bytes-append (be 8 r.high) _ (bytes-be 8 r.high) (bytes-append (be 2 r.first) _ (bytes-be 2 r.first) (bytes-be 2 r.last))))
    (rows_octets rs)

cell_octets : (s : Slot) → SlotOctets s → Bytes (slot_bytes s)
unfolding slot_bytes
cell_octets s h =
    bytes-append (be 1 s.owner) _ (bytes-be 1 s.owner)
    (bytes-append (zeros 1) _ (bytes-zeros 1)
    (bytes-append (be 2 s.next) _ (bytes-be 2 s.next) (bytes-append (be 8 s.position) _ (bytes-be 8 s.position) (bytes-append s.value s.digest h.value h.digest))))

cells_octets : (slots : List Slot) → SlotsOctets slots → Bytes (flat slot_bytes slots)
unfolding flat
cells_octets [] h = λ (i : ℕ). omega arith
cells_octets (s ∷ slots) h = bytes-append (slot_bytes s) (flat slot_bytes slots) (cell_octets s (h 0)) (cells_octets slots (λ (i : ℕ). h (suc i)))

header_octets : (logs slots keeper free : ℕ) (key : List ℕ) → Bytes key → Bytes (header_bytes01 logs slots keeper free key)
unfolding header_bytes01
header_octets logs slots keeper free key h =
    let r₁ : List ℕ = zeros 2 ++ key in
    let r₂ : List ℕ = be 2 free ++ r₁ in
    let r₃ : List ℕ = be 8 keeper ++ r₂ in
    let r₄ : List ℕ = be 2 slots ++ r₃ in
    let r₅ : List ℕ = zeros 1 ++ r₄ in
    bytes-append plan01.mark (be 1 logs ++ r₅) mark_octets
    (bytes-append (be 1 logs) r₅ (bytes-be 1 logs)
    (bytes-append (zeros 1) r₄ (bytes-zeros 1)
    (bytes-append (be 2 slots) r₃ (bytes-be 2 slots) (bytes-append (be 8 keeper) r₂ (bytes-be 8 keeper) (bytes-append (be 2 free) r₁ (bytes-be 2 free) (bytes-append (zeros 2) key (bytes-zeros 2) h))))))

pub write_octets : (m : Image) → ImageOctets m → Bytes (write01 m)
unfolding write01
write_octets m h =
    bytes-append (header_bytes01 (length m.rows) (length m.slots) m.keeper m.free m.key) (flat row_bytes01 m.rows ++ flat slot_bytes m.slots)
    (header_octets (length m.rows) (length m.slots) m.keeper m.free m.key h.key)
    (bytes-append (flat row_bytes01 m.rows) (flat slot_bytes m.slots) (rows_octets m.rows) (cells_octets m.slots h.slots))
