-- The program's own: what the check's walks answer, how many slots they met, and the last, or nothing where a chain is broken. The product's contracts cite `Whole`.
use Rattle.std.specs.Prelude.{ℕ, suc, List, Bool, true, false, ◌&&◌, length, Option, Some, None}
use Rattle.table.specs.declared.Met.{Met}
use Rattle.table.specs.declared.Holding.{Holding}
use Rattle.layout.specs.declared.Row.{Row}
use Rattle.layout.specs.Image.{Slot, Image, slot_at}
use Rattle.layout.specs.Tests.{blank}
use Rattle.table.specs.Chains.{last_of, reaches, chain, positions_of}
use Rattle.table.specs.Reserve.{lack_but, lack_all}
use Rattle.table.specs.WholeImage.{all, row_ok, rows_ok, held_by, started}

-- one chain
abbrev pub walk_of : Bool → List ℕ → Option Met
walk_of true c = Some (record { count = length c; last = last_of c })
walk_of false c = None

-- the free chain, from slot s on
abbrev pub free_walk : List Slot → ℕ → Option Met
free_walk slots s = let c = chain slots 0 s in walk_of (reaches slots 0 s && all (λ (t : ℕ). blank (slot_at slots t)) c) c

-- all logs' chains, what the logs lack of their reserves, and what all but one lack
abbrev pub held_of : Bool → List ℕ → ℕ → ℕ → Option Holding
held_of true c lack others = Some (record { held = length c; lack = lack; others = others })
held_of false c lack others = None

-- the same of a table, for a call on log g
unfoldable pub held_walk : Image → ℕ → Option Holding
held_walk m g = held_of (rows_ok m.slots 0 m.rows) (held_by m.slots 0 m.rows) (lack_all m) (lack_but m g)

-- the chain of log g, with its row
abbrev pub row_walk : List Slot → ℕ → Row → Option Met
row_walk slots g r = walk_of (row_ok slots g r) (chain slots (suc g) r.first)

-- the same, where the row is not fresh
abbrev pub started_walk : List Slot → ℕ → Row → Option Met
started_walk slots g r = let c = chain slots (suc g) r.first in walk_of (reaches slots (suc g) r.first && started r c (positions_of slots c)) c
