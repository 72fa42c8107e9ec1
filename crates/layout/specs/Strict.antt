-- The program's own: slots as the check's walks read them, each with its zero byte. The product's contracts cite `Layout` and `Tests`.
use Rattle.std.specs.Prelude.{ℕ, ◌+◌, ◌*◌, List}
use Rattle.octets.specs.Octets.{part}
use Rattle.bigendian.specs.BigEndian.{unbe}
use Rattle.layout.specs.Image.{Slot, Image}
use Rattle.layout.specs.Layout.{plan01, slot_size, row_offset, row_offset_in, logs_of, slots_of, read_table}
use Rattle.layout.specs.Layout01.{read01}
use Rattle.layout.specs.Lists.{tabulate}

-- "1 zero": byte 1 is the owner's second digit, so that a slot where it is not zero has an owner of 256 or more, that of no chain
unfoldable pub strict_slot : List ℕ → Slot
strict_slot b = record { owner = unbe (part b 0 1) + 256 * unbe (part b 1 1); next = unbe (part b 2 2); position = unbe (part b 4 8); value = part b 12 32; digest = part b 44 32 }

-- so many slots on end, the first at start
unfoldable pub strict_from : List ℕ → ℕ → ℕ → List Slot
strict_from b start slots = tabulate slots (λ i. strict_slot (part b (start + slot_size * i) slot_size))

-- an image with other slots
abbrev pub with_slots : Image → List Slot → Image
with_slots m slots = record { keeper = m.keeper; key = m.key; free = m.free; rows = m.rows; slots = slots }

-- what a table's bytes say, its slots read so
unfoldable pub strict_cells : List ℕ → List Slot
strict_cells b = strict_from b (row_offset (logs_of b)) (slots_of b)

abbrev pub strict_table : List ℕ → Image
strict_table b = with_slots (read_table b) (strict_cells b)

-- the same of a table of document 01's layout
unfoldable pub strict_cells01 : List ℕ → List Slot
strict_cells01 b = strict_from b (row_offset_in plan01 (logs_of b)) (slots_of b)

abbrev pub strict01 : List ℕ → Image
strict01 b = with_slots (read01 b) (strict_cells01 b)
