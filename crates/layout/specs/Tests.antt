-- Document 01, "the length, constants and counts are as above", and "bytes 4–75 zero", as tests that the code makes.
use Rattle.std.specs.Prelude.{ℕ, zero, suc, ◌+◌, ◌*◌, List, Bool, true, false, ◌&&◌, length, eqb, leb, Option, Some, None}
use Rattle.octets.specs.Octets.{part, same, zeros}
use Rattle.layout.specs.declared.Counts.{Counts}
use Rattle.layout.specs.Image.{Slot}
use Rattle.layout.specs.Layout.{Plan, plan, mark, zero_offset, slot_size, row_offset, cell_offset_in, logs_of, slots_of}

-- "The keeper holds 1 to 16 logs over one shared pool of 1 to 800 slots."
unfoldable pub in_range : ℕ → ℕ → Bool
in_range logs slots = leb 1 logs && leb logs 16 && leb 1 slots && leb slots 800

-- request [1]: "that mark"
abbrev pub marked : List ℕ → Bool
marked b = same (part b 0 4) mark

-- the mark; "5 zero"
unfoldable pub constants_fit : List ℕ → Bool
constants_fit b = marked b && same (part b zero_offset 1) (zeros 1)

-- "the length, constants and counts are as above", as far as the header holds them, in a layout of so many bytes and such constants
unfoldable pub header_fits_in : Plan → (List ℕ → Bool) → List ℕ → Bool
header_fits_in p constants b = constants b && in_range (logs_of b) (slots_of b) && eqb (length b) (cell_offset_in p (logs_of b) (slots_of b))

-- in the present one
abbrev pub header_fits : List ℕ → Bool
header_fits b = header_fits_in plan constants_fit b

-- a table's counts, where a test says that they hold
abbrev pub counts_if : Bool → List ℕ → Option Counts
counts_if true b = Some (record { logs = logs_of b; slots = slots_of b })
counts_if false b = None

-- p holds of every number below n
unfoldable pub all_below : ℕ → (ℕ → Bool) → Bool
all_below zero p = true
all_below (suc n) p = p n && all_below n p

-- "1 zero", in each of so many slots, the first at start
unfoldable pub pads_from : List ℕ → ℕ → ℕ → Bool
pads_from b start slots = all_below slots (λ (i : ℕ). same (part b (start + slot_size * i + 1) 1) (zeros 1))

abbrev pub pads_fit : List ℕ → Bool
pads_fit b = pads_from b (row_offset (logs_of b)) (slots_of b)

-- "bytes 4–75 zero"
unfoldable pub blank : Slot → Bool
blank s = eqb s.position 0 && same s.value (zeros 32) && same s.digest (zeros 32)
