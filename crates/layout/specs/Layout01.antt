-- Document 01's own layout, that of tables that begin A2MT: a header of 52 bytes with zero in bytes 18–19, and rows of 20 bytes. Counts, keeper number, first
-- free slot and key stand where they stand in the present layout, and slots are the same.
use Rattle.std.specs.Prelude.{ℕ, List, ◌++◌, length}
use Rattle.octets.specs.Octets.{part, zeros}
use Rattle.bigendian.specs.BigEndian.{be, unbe}
use Rattle.layout.specs.declared.Row.{Row}
use Rattle.layout.specs.Image.{Slot, Image}
use Rattle.layout.specs.Layout.{plan01, row_offset_in, cell_offset_in, logs_of, slots_of, keeper_of, free_of, key_of, slot_bytes, cells_from}
use Rattle.layout.specs.Lists.{tabulate, flat}

-- "L (8), H (8), first slot (2), last slot (2)", read off a row's 20 bytes; such a row has no reserve
unfoldable pub read_row01 : List ℕ → Row
read_row01 b = record { low = unbe (part b 0 8); high = unbe (part b 8 8); first = unbe (part b 16 2); last = unbe (part b 18 2); reserve = 0 }

-- the same, written
unfoldable pub row_bytes01 : Row → List ℕ
row_bytes01 r = be 8 r.low ++ (be 8 r.high ++ (be 2 r.first ++ be 2 r.last))

unfoldable pub rows_of01 : List ℕ → List Row
rows_of01 b = tabulate (logs_of b) (λ g. read_row01 (part b (row_offset_in plan01 g) plan01.row))

unfoldable pub cells_of01 : List ℕ → List Slot
cells_of01 b = cells_from b (row_offset_in plan01 (logs_of b)) (slots_of b)

-- what such bytes say
unfoldable pub read01 : List ℕ → Image
read01 b = record { keeper = keeper_of b; key = key_of b; free = free_of b; rows = rows_of01 b; slots = cells_of01 b }

-- "The length is 52 + 20G + 76S exactly"
abbrev pub table_size01 : ℕ → ℕ → ℕ
table_size01 logs slots = cell_offset_in plan01 logs slots

-- "0–3 ASCII A2MT; 4 log count G; 5 zero; 6–7 slot count S; 8–15 keeper number; 16–17 first free slot, 0 if none; 18–19 zero; 20–51 key"
unfoldable pub header_bytes01 : ℕ → ℕ → ℕ → ℕ → List ℕ → List ℕ
header_bytes01 logs slots keeper free key =
    plan01.mark ++ (be 1 logs ++ (zeros 1 ++ (be 2 slots ++ (be 8 keeper ++ (be 2 free ++ (zeros 2 ++ key))))))

-- the bytes of an image whose rows have no reserve
unfoldable pub write01 : Image → List ℕ
write01 m = header_bytes01 (length m.rows) (length m.slots) m.keeper m.free m.key ++ (flat row_bytes01 m.rows ++ flat slot_bytes m.slots)
