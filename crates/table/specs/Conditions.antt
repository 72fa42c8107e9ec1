-- Document 01, "A table is whole if ..", as conditions: a field for each clause of the sentence, and those of requests [1], [4] and [5]. `proofs/ConditionLaws` shows that they hold exactly when the test `whole` does.
use Rattle.std.specs.Prelude.{ℕ, suc, ◌+◌, ◌-◌, ◌≤◌, ◌<◌, ◌≡◌, ◌⊎◌, List, [], ◌∷◌, length}
use Rattle.octets.specs.Octets.{part, zeros}
use Rattle.layout.specs.declared.Row.{Row}
use Rattle.layout.specs.Image.{Slot, slot_at}
use Rattle.layout.specs.Fits.{Range}
use Rattle.layout.specs.Layout.{mark, zero_offset, pad_offset, logs_of, slots_of, table_size, read_table, stock_of}
use Rattle.table.specs.Chains.{last_of, positions_of}

-- a chain from slot s along the slots of c, each of owner o and in the table, to slot e
abbrev pub Links : List Slot → ℕ → ℕ → List ℕ → ℕ → Type 0
Links slots o s [] e = s ≡ e
Links slots o s (t ∷ c) e = (s ≡ t) × (1 ≤ t) × (t ≤ length slots) × ((slot_at slots t).owner ≡ o) × Links slots o (slot_at slots t).next c e

-- "bytes 4–75 zero"
pub record Blank (s : Slot) : Type 0 where
  pub position : s.position ≡ 0
  pub value : s.value ≡ zeros 32
  pub digest : s.digest ≡ zeros 32

-- P holds of each
abbrev pub Each : (ℕ → Type 0) → List ℕ → Type 0
Each P [] = Unit {0}
Each P (x ∷ xs) = P x × Each P xs

-- "strictly rising positions, the lowest at least" b
abbrev pub Rising : ℕ → List ℕ → Type 0
Rising b [] = Unit {0}
Rising b (x ∷ xs) = (b ≤ x) × Rising (suc x) xs

-- "fresh (first and last slot 0)"; "A fresh log has L = 1 and H = 0."
pub record Fresh (r : Row) (c : List ℕ) : Type 0 where
  pub low : r.low ≡ 1
  pub high : r.high ≡ 0
  pub first : r.first ≡ 0
  pub last : r.last ≡ 0
  pub empty : c ≡ []

-- "has 1 ≤ L ≤ H and a chain of its own slots from first to last with strictly rising positions, the lowest at least L, the last equal to H"
pub record Started (slots : List Slot) (g : ℕ) (r : Row) (c : List ℕ) : Type 0 where
  pub least : 1 ≤ r.low
  pub order : r.low ≤ r.high
  pub own : Links slots (suc g) r.first c 0
  pub last : last_of c ≡ r.last
  pub rising : Rising r.low (positions_of slots c)
  pub high : last_of (positions_of slots c) ≡ r.high

-- "each row is fresh .. or has ..", from log g on, with the rows' chains
abbrev pub Rows : List Slot → ℕ → List Row → List (List ℕ) → Type 0
Rows slots g [] [] = Unit {0}
Rows slots g [] (c ∷ cs) = ⊥
Rows slots g (r ∷ rs) [] = ⊥
Rows slots g (r ∷ rs) (c ∷ cs) = (Fresh r c ⊎ Started slots g r c) × Rows slots (suc g) rs cs

-- the lengths of chains, added up
unfoldable pub total_of : List (List ℕ) → ℕ
total_of [] = 0
total_of (c ∷ cs) = length c + total_of cs

-- what the rows lack of their reserves, given their chains; a chain longer than its row's reserve makes up for no other
unfoldable pub lack_with : List Row → List (List ℕ) → ℕ
lack_with [] cs = 0
lack_with (r ∷ rs) [] = 0
lack_with (r ∷ rs) (c ∷ cs) = (r.reserve - length c) + lack_with rs cs

pub record Whole (b : List ℕ) : Type 0 where
  -- "the length"
  pub sized : length b ≡ table_size (logs_of b) (slots_of b)
  -- "constants"
  pub marked : part b 0 4 ≡ mark
  pub zero : part b zero_offset 1 ≡ zeros 1
  pub pads : (i : ℕ) → i < slots_of b → part b (pad_offset (logs_of b) i) 1 ≡ zeros 1
  -- "and counts are as above"
  pub counts : Range (logs_of b) (slots_of b)
  -- "the free chain reaches 0 through slots with owner 0"
  pub freed : List ℕ
  pub free : Links (read_table b).slots 0 (read_table b).free freed 0
  -- "and bytes 4–75 zero"
  pub blank : Each (λ (s : ℕ). Blank (slot_at (read_table b).slots s)) freed
  -- request [1]: "A table whose number differs is torn."
  pub number : (stock_of b).count ≡ length freed
  -- request [4]: "A table that names another is torn."
  pub last : (stock_of b).last ≡ last_of freed
  -- "each row is fresh .. or has .. a chain"
  pub chains : List (List ℕ)
  pub rows : Rows (read_table b).slots 0 (read_table b).rows chains
  -- "chain lengths together make S"
  pub total : length freed + total_of chains ≡ slots_of b
  -- request [5]: "A table with fewer free slots than its logs together lack of their reserves is torn."
  pub enough : lack_with (read_table b).rows chains ≤ length freed
