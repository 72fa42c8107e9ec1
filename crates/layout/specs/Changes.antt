-- An image, a slot or a row with another part: what append, advance and truncate make of them.
use Rattle.std.specs.Prelude.{ℕ, ◌+◌, List, cond, set, eqb}
use Rattle.layout.specs.declared.Row.{Row}
use Rattle.layout.specs.declared.Link.{Link}
use Rattle.layout.specs.declared.Slot as lent
use Rattle.layout.specs.Image.{Slot, Image, set_slot}

-- the image with another row of log g
abbrev pub with_row : Image → ℕ → Row → Image
with_row m g r = record { keeper = m.keeper; key = m.key; free = m.free; rows = set m.rows g r; slots = m.slots }

-- the image with another slot s
abbrev pub with_slot : Image → ℕ → Slot → Image
with_slot m s x = record { keeper = m.keeper; key = m.key; free = m.free; rows = m.rows; slots = set_slot m.slots s x }

-- the image with another first free slot
abbrev pub with_free : Image → ℕ → Image
with_free m f = record { keeper = m.keeper; key = m.key; free = f; rows = m.rows; slots = m.slots }

-- the slot with another next
abbrev pub with_next : Slot → ℕ → Slot
with_next x n = record { owner = x.owner; next = n; position = x.position; value = x.value; digest = x.digest }

-- the slot of these fields
abbrev pub slot_of : ℕ → ℕ → ℕ → List ℕ → List ℕ → Slot
slot_of owner next position value digest = record { owner = owner; next = next; position = position; value = value; digest = digest }

-- what a slot with a lent value and digest says
abbrev pub slot_said : lent.Slot → Slot
slot_said s = slot_of s.owner s.next s.position s.value.now s.digest.now

-- a slot without its value and digest
abbrev pub link_of : Slot → Link
link_of s = record { owner = s.owner; next = s.next; position = s.position }

-- document 01: "hands back the row as it is after". Advance: the entry at n is the last, and the first where the chain was empty
unfoldable pub advanced_row : Row → ℕ → ℕ → Row
advanced_row r n slot = record { low = r.low; high = n; first = cond (eqb r.last 0) slot r.first; last = slot; reserve = r.reserve }

-- "Append puts value x at H + 1."
unfoldable pub appended_row : Row → ℕ → Row
appended_row r slot = advanced_row r (r.high + 1) slot

-- "Entries below n leave, .. L becomes n."; first is the lowest entry's slot that stays
unfoldable pub truncated_row : Row → ℕ → ℕ → Row
truncated_row r n first = record { low = n; high = r.high; first = first; last = r.last; reserve = r.reserve }
