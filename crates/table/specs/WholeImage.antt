-- Document 01, "A table is whole if ..", as far as it speaks of rows, slots and chains, and request [5]'s clause: a test that a reader can compute.
use Rattle.std.specs.Prelude.{ℕ, suc, List, [], ◌∷◌, ◌++◌, Bool, true, ◌&&◌, ◌||◌, length, eqb, leb}
use Rattle.layout.specs.declared.Row.{Row}
use Rattle.layout.specs.Image.{Slot, Image, slot_at}
use Rattle.layout.specs.Tests.{blank}
use Rattle.table.specs.Chains.{reaches, chain, last_of, positions_of}
use Rattle.table.specs.Free.{free_chain}
use Rattle.table.specs.Reserve.{lack_all}

unfoldable pub all {ℓ} : {A : Type ℓ} → (A → Bool) → List A → Bool
all p [] = true
all p (x ∷ xs) = p x && all p xs

-- "the free chain reaches 0 through slots with owner 0 and bytes 4–75 zero"
unfoldable pub free_ok : Image → Bool
free_ok m = reaches m.slots 0 m.free && all (λ (s : ℕ). blank (slot_at m.slots s)) (chain m.slots 0 m.free)

-- "fresh (first and last slot 0)"
unfoldable pub fresh : Row → Bool
fresh r = eqb r.low 1 && eqb r.high 0 && eqb r.first 0 && eqb r.last 0

-- "strictly rising positions", the first at least b
unfoldable pub rising_from : ℕ → List ℕ → Bool
rising_from b [] = true
rising_from b (x ∷ xs) = leb b x && rising_from (suc x) xs

-- "1 ≤ L ≤ H and a chain .. from first to last with strictly rising positions, the lowest at least L, the last equal to H":
-- c are the chain's slots, ps the positions along it
unfoldable pub started : Row → List ℕ → List ℕ → Bool
started r c ps = leb 1 r.low && leb r.low r.high && rising_from r.low ps && eqb (last_of ps) r.high && eqb (last_of c) r.last

-- "each row is fresh .. or has .. a chain of its own slots": log g owns slots of owner g + 1
unfoldable pub row_ok : List Slot → ℕ → Row → Bool
row_ok slots g r =
    let c = chain slots (suc g) r.first in fresh r || (reaches slots (suc g) r.first && started r c (positions_of slots c))

-- the rows from log g on
unfoldable pub rows_ok : List Slot → ℕ → List Row → Bool
rows_ok slots g [] = true
rows_ok slots g (r ∷ rs) = row_ok slots g r && rows_ok slots (suc g) rs

-- the logs' chains, end to end
unfoldable pub held_by : List Slot → ℕ → List Row → List ℕ
held_by slots g [] = []
held_by slots g (r ∷ rs) = chain slots (suc g) r.first ++ held_by slots (suc g) rs

-- every slot that a chain meets, the free chain's first
unfoldable pub meets : Image → List ℕ
meets m = chain m.slots 0 m.free ++ held_by m.slots 0 m.rows

-- document 01's clauses on chains; "chain lengths together make S"
abbrev pub linked : Image → Bool
linked m = free_ok m && rows_ok m.slots 0 m.rows && eqb (length (meets m)) (length m.slots)

-- request [5]: "A table with fewer free slots than its logs together lack of their reserves is torn."
unfoldable pub whole_image : Image → Bool
whole_image m = linked m && leb (lack_all m) (length (free_chain m))
