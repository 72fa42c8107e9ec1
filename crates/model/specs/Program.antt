-- A call as the program makes it: append, advance and truncate are lent the table to change it, lookup and end to read it.
use Rattle.std.specs.Prelude.{ℕ, List}
use Rattle.a2m.specs.Call.{Call, append, advance, truncate, lookup, end, Effect, effect}
use Rattle.a2m.specs.TableCalls.{table_step}

-- the table that the next call gets
unfoldable pub passed_on : List ℕ → Call → List ℕ
passed_on b (append g x) = (table_step b (append g x)).state
passed_on b (advance g n d x) = (table_step b (advance g n d x)).state
passed_on b (truncate g n) = (table_step b (truncate g n)).state
passed_on b (lookup g n c k) = b
passed_on b (end g c k) = b

unfoldable pub program_step : List ℕ → Call → Effect (List ℕ)
program_step b call = effect (table_step b call).reply (table_step b call).blocks (passed_on b call)
