-- Document 01, "An accepted format writes the whole table of the given G, S, keeper number and key, every log fresh and every slot free."; request [5]:
-- "Formatting takes a reserve for each log".
use Rattle.std.specs.Prelude.{ℕ, List, [], ◌∷◌, map, not, ◌&&◌, eqb, ltb, length}
use Rattle.std.proofs.Math.Option.{Option}
use Rattle.refusal.specs.Order.{fault, first_fault, afterwards}
use Rattle.layout.specs.Image.{Image, fresh_row}
use Rattle.layout.specs.Layout.{table_size}
use Rattle.table.specs.Free.{queue, write_table}
use Rattle.table.specs.Reserve.{sum}
use Rattle.layout.specs.Tests.{in_range}

-- the table that is written: a log for each reserve, and the free chain is the queue 1 to S
unfoldable pub formatted : ℕ → ℕ → List ℕ → List ℕ → Image
formatted slots keeper key reserves = record { keeper = keeper; key = key; free = 1; rows = map fresh_row reserves; slots = queue slots }

-- "8 for G and S, then 7, another count of reserves than G included, then 8 for reserves that together pass S"; 7: a key or a buffer of another length than
-- its own
unfoldable pub format_refusal : ℕ → ℕ → ℕ → ℕ → List ℕ → Option ℕ
format_refusal size logs slots key_size reserves =
    first_fault (
    fault 8 (not (in_range logs slots)) ∷
    fault 7 (not (eqb key_size 32 && eqb size (table_size logs slots) && eqb (length reserves) logs)) ∷
    fault 8 (ltb slots (sum reserves)) ∷ [])

-- the buffer after the call; "A refusal changes no lent byte"
unfoldable pub format_bytes : List ℕ → ℕ → ℕ → ℕ → List ℕ → List ℕ → List ℕ
format_bytes b logs slots keeper key reserves =
    afterwards (format_refusal (length b) logs slots (length key) reserves) (write_table (formatted slots keeper key reserves)) b
