-- Document 01, "Table bytes": where each field of a table stands, a table read off its bytes, and written. Sizes and offsets are named here and nowhere else.
use Rattle.std.specs.Prelude.{ℕ, ◌+◌, ◌-◌, ◌*◌, List, [], ◌∷◌, ◌++◌, length}
use Rattle.octets.specs.Octets.{part, splice, zeros}
use Rattle.bigendian.specs.BigEndian.{be, unbe}
use Rattle.layout.specs.declared.Row.{Row}
use Rattle.layout.specs.Image.{Slot, Image}
use Rattle.layout.specs.Lists.{tabulate, flat}

-- a layout: its mark, and the bytes of its header and of a row
pub record Plan : Type 0 where
  pub mark : List ℕ
  pub header : ℕ
  pub row : ℕ

-- document 01's, never edited: "0–3 ASCII A2MT", "Header, 52 bytes", "Then G rows of 20 bytes"
abbrev pub plan01 : Plan
plan01 = record { mark = 65 ∷ 50 ∷ 77 ∷ 84 ∷ []; header = 52; row = 20 }

-- the present one; request [1]: "Such tables begin A2MU instead of A2MT"; request [4]: "The header grows to 54 bytes"; request [5]: a reserve, "kept as 2 more bytes at its row's end"
abbrev pub plan : Plan
plan = record { mark = 65 ∷ 50 ∷ 77 ∷ 85 ∷ []; header = 54; row = 22 }

abbrev pub header_size : ℕ
header_size = plan.header

abbrev pub row_size : ℕ
row_size = plan.row

-- "Then slots 1 to S of 76 bytes"
abbrev pub slot_size : ℕ
slot_size = 76

abbrev pub mark : List ℕ
mark = plan.mark

-- the number that its bytes make (`CodeLaws: mark-four`)
abbrev pub mark_number : ℕ
mark_number = 0x41324D55

-- "4 log count G"
unfoldable pub logs_of : List ℕ → ℕ
logs_of b = unbe (part b 4 1)

-- "6–7 slot count S"
unfoldable pub slots_of : List ℕ → ℕ
slots_of b = unbe (part b 6 2)

-- "8–15 keeper number"
unfoldable pub keeper_of : List ℕ → ℕ
keeper_of b = unbe (part b 8 8)

-- "16–17 first free slot, 0 if none"
abbrev pub free_offset : ℕ
free_offset = 16

unfoldable pub free_of : List ℕ → ℕ
free_of b = unbe (part b free_offset 2)

-- what a header says of the free slots beside the first: a table's bytes have it, an image does not, for it follows from the free chain
pub record Stock : Type 0 where
  pub count : ℕ
  pub last : ℕ

abbrev pub stocked : ℕ → ℕ → Stock
stocked count last = record { count = count; last = last }

-- request [1]: "Header bytes 18–19 hold the number" of free slots
abbrev pub count_offset : ℕ
count_offset = 18

-- request [4]: "bytes 52–53 naming the last free slot, 0 if none"
abbrev pub last_offset : ℕ
last_offset = 52

unfoldable pub stock_of : List ℕ → Stock
stock_of b = stocked (unbe (part b count_offset 2)) (unbe (part b last_offset 2))

-- "20–51 key"
unfoldable pub key_of : List ℕ → List ℕ
key_of b = part b 20 32

-- in a layout the rows follow the header, and the slots follow the rows: slot i + 1 of a table of so many logs
abbrev pub row_offset_in : Plan → ℕ → ℕ
row_offset_in p g = p.header + p.row * g

abbrev pub cell_offset_in : Plan → ℕ → ℕ → ℕ
cell_offset_in p logs i = row_offset_in p logs + slot_size * i

abbrev pub row_offset : ℕ → ℕ
row_offset g = row_offset_in plan g

abbrev pub cell_offset : ℕ → ℕ → ℕ
cell_offset logs i = cell_offset_in plan logs i

-- slots count from 1
abbrev pub slot_offset : ℕ → ℕ → ℕ
slot_offset logs s = cell_offset logs (s - 1)

-- "The length is 52 + 20G + 76S exactly", with the present header and rows
abbrev pub table_size : ℕ → ℕ → ℕ
table_size logs slots = cell_offset logs slots

-- the table of most logs and slots: document 01's "at most 61,172", 2 bytes more and 2 for each row
abbrev pub largest : ℕ
largest = table_size 16 800

-- "5 zero": the header's zero byte
abbrev pub zero_offset : ℕ
zero_offset = 5

-- "L (8), H (8), first slot (2), last slot (2)" and the reserve (2), read off a row's 22 bytes
unfoldable pub read_row : List ℕ → Row
read_row b = record { low = unbe (part b 0 8); high = unbe (part b 8 8); first = unbe (part b 16 2); last = unbe (part b 18 2); reserve = unbe (part b 20 2) }

-- the same, written
unfoldable pub row_bytes : Row → List ℕ
row_bytes r = be 8 r.low ++ (be 8 r.high ++ (be 2 r.first ++ (be 2 r.last ++ be 2 r.reserve)))

-- "0 owner (0 free, log number + 1 held); 1 zero; 2–3 next slot, 0 at the chain's end; 4–11 position; 12–43 value; 44–75 digest", read off a slot's 76 bytes
unfoldable pub read_slot : List ℕ → Slot
read_slot b = record { owner = unbe (part b 0 1); next = unbe (part b 2 2); position = unbe (part b 4 8); value = part b 12 32; digest = part b 44 32 }

-- the same, written
unfoldable pub slot_bytes : Slot → List ℕ
slot_bytes s = be 1 s.owner ++ (zeros 1 ++ (be 2 s.next ++ (be 8 s.position ++ (s.value ++ s.digest))))

-- "1 zero": the zero byte of slot i + 1
abbrev pub pad_offset : ℕ → ℕ → ℕ
pad_offset logs i = cell_offset logs i + 1

-- "2–3 next slot"
abbrev pub next_offset : ℕ → ℕ → ℕ
next_offset logs s = slot_offset logs s + 2

-- the G rows, and the slots 1 to S
unfoldable pub rows_of : List ℕ → List Row
rows_of b = tabulate (logs_of b) (λ g. read_row (part b (row_offset g) row_size))

-- so many slots on end, the first at start: the same in every layout
unfoldable pub cells_from : List ℕ → ℕ → ℕ → List Slot
cells_from b start slots = tabulate slots (λ i. read_slot (part b (start + slot_size * i) slot_size))

unfoldable pub cells_of : List ℕ → List Slot
cells_of b = cells_from b (row_offset (logs_of b)) (slots_of b)

-- what a table's bytes say
unfoldable pub read_table : List ℕ → Image
read_table b = record { keeper = keeper_of b; key = key_of b; free = free_of b; rows = rows_of b; slots = cells_of b }

-- the mark; "4 log count G; 5 zero; 6–7 slot count S"
abbrev pub count_bytes : ℕ → ℕ → List ℕ
count_bytes logs slots = mark ++ (be 1 logs ++ (zeros 1 ++ be 2 slots))

-- the mark; "4 log count G; 5 zero; 6–7 slot count S; 8–15 keeper number; 16–17 first free slot, 0 if none"; 18–19 number of free slots; "20–51 key"; 52–53 last free slot
unfoldable pub header_bytes : ℕ → ℕ → ℕ → ℕ → Stock → List ℕ → List ℕ
header_bytes logs slots keeper free stock key =
    mark ++ (be 1 logs ++ (zeros 1 ++ (be 2 slots ++ (be 8 keeper ++ (be 2 free ++ (be 2 stock.count ++ (key ++ be 2 stock.last)))))))

-- the bytes of an image with a stock: header, rows, slots. `table/specs/Free: write_table` takes the stock that the image has
unfoldable pub write_with : Stock → Image → List ℕ
write_with stock m =
    header_bytes (length m.rows) (length m.slots) m.keeper m.free stock m.key ++ (flat row_bytes m.rows ++ flat slot_bytes m.slots)

-- a table's bytes with another row of log g, another slot s, another next in slot s, another first free slot, another number of free slots, another last free slot
unfoldable pub put_row : List ℕ → ℕ → Row → List ℕ
put_row b g r = splice b (row_offset g) (row_bytes r)

unfoldable pub put_slot : List ℕ → ℕ → Slot → List ℕ
put_slot b s x = splice b (slot_offset (logs_of b) s) (slot_bytes x)

unfoldable pub put_next : List ℕ → ℕ → ℕ → List ℕ
put_next b s n = splice b (next_offset (logs_of b) s) (be 2 n)

unfoldable pub put_free : List ℕ → ℕ → List ℕ
put_free b f = splice b free_offset (be 2 f)

unfoldable pub put_count : List ℕ → ℕ → List ℕ
put_count b n = splice b count_offset (be 2 n)

unfoldable pub put_last : List ℕ → ℕ → List ℕ
put_last b s = splice b last_offset (be 2 s)
