-- Document 01's own "A table is whole if ..", as conditions, a field for each clause of the sentence. `proofs/ConditionLaws01` shows that they hold exactly when
-- the test `whole01` does.
use Rattle.std.specs.Prelude.{ℕ, ◌+◌, ◌<◌, ◌≡◌, List, length}
use Rattle.octets.specs.Octets.{part, zeros}
use Rattle.layout.specs.Image.{slot_at}
use Rattle.layout.specs.Fits.{Range}
use Rattle.layout.specs.Layout.{plan01, zero_offset, count_offset, cell_offset_in, logs_of, slots_of}
use Rattle.layout.specs.Layout01.{table_size01, read01}
use Rattle.table.specs.Conditions.{Links, Blank, Each, Rows, total_of}

pub record Whole01 (b : List ℕ) : Type 0 where
  -- "the length"
  pub sized : length b ≡ table_size01 (logs_of b) (slots_of b)
  -- "constants"
  pub marked : part b 0 4 ≡ plan01.mark
  pub zero : part b zero_offset 1 ≡ zeros 1
  pub unused : part b count_offset 2 ≡ zeros 2
  pub pads : (i : ℕ) → i < slots_of b → part b (cell_offset_in plan01 (logs_of b) i + 1) 1 ≡ zeros 1
  -- "and counts are as above"
  pub counts : Range (logs_of b) (slots_of b)
  -- "the free chain reaches 0 through slots with owner 0"
  pub freed : List ℕ
  pub free : Links (read01 b).slots 0 (read01 b).free freed 0
  -- "and bytes 4–75 zero"
  pub blank : Each (λ (s : ℕ). Blank (slot_at (read01 b).slots s)) freed
  -- "each row is fresh .. or has .. a chain"
  pub chains : List (List ℕ)
  pub rows : Rows (read01 b).slots 0 (read01 b).rows chains
  -- "chain lengths together make S"
  pub total : length freed + total_of chains ≡ slots_of b
