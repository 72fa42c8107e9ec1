-- The five calls on a table's bytes: those on the image that the bytes say, written back. Every contract of this crate cites `table_step`.
use Rattle.std.specs.Prelude.{ℕ, List, not}
use Rattle.std.proofs.Math.Option.{Option, none, some}
use Rattle.refusal.specs.Order.{first_fault}
use Rattle.layout.specs.Image.{Image}
use Rattle.layout.specs.Layout.{read_table}
use Rattle.table.specs.Free.{write_table}
use Rattle.table.specs.Whole.{whole}
use Rattle.a2m.specs.Call.{Call, refused, Effect, effect}
use Rattle.a2m.specs.ImageCalls.{faults, image_accept}

-- document 01: "Order: table calls 7 (receipt output included), 1, 2, 3, 4, 6, 5", since document 02, [6], without the 6, and [5]: 16 "tested after 5"; 1
-- where the bytes are not a whole table
unfoldable pub table_refusal : List ℕ → Call → Option ℕ
table_refusal b call = first_fault (faults (not (whole b)) (read_table b) call)

-- an effect's table as bytes
abbrev pub written : Effect Image → Effect (List ℕ)
written o = effect o.reply o.blocks (write_table o.state)

-- "A refusal changes no lent byte and returns its number alone", and by request [2] its blocks with it, "0 for a table call"
unfoldable pub table_step : List ℕ → Call → Effect (List ℕ)
table_step b call = elim (table_refusal b call) [ none ↦ written (image_accept (read_table b) call) | some k ↦ effect (refused k) 0 b ]
