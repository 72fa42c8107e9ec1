-- Document 01's own test, on A2MT bytes: "A table is whole if the length, constants and counts are as above, and: .. Anything else is torn."
use Rattle.std.specs.Prelude.{ℕ, List, Bool, ◌&&◌}
use Rattle.octets.specs.Octets.{part, same, zeros}
use Rattle.layout.specs.Layout.{plan01, zero_offset, count_offset, row_offset_in, logs_of, slots_of}
use Rattle.layout.specs.Layout01.{read01}
use Rattle.layout.specs.Tests.{header_fits_in, pads_from}
use Rattle.table.specs.WholeImage.{linked}

-- "0–3 ASCII A2MT"; "5 zero"; "18–19 zero"
unfoldable pub constants_fit01 : List ℕ → Bool
constants_fit01 b = same (part b 0 4) plan01.mark && same (part b zero_offset 1) (zeros 1) && same (part b count_offset 2) (zeros 2)

-- "the length, constants and counts are as above", as far as the header holds them
abbrev pub header_fits01 : List ℕ → Bool
header_fits01 b = header_fits_in plan01 constants_fit01 b

-- "1 zero", in each slot
abbrev pub pads_fit01 : List ℕ → Bool
pads_fit01 b = pads_from b (row_offset_in plan01 (logs_of b)) (slots_of b)

-- the clauses on chains are those of the present layout; there is no number, no last slot and no reserve
unfoldable pub whole01 : List ℕ → Bool
whole01 b = header_fits01 b && pads_fit01 b && linked (read01 b)
