-- Demand 3, its part on lists of calls, whole: for every accepted format and every list of requests on the table that it wrote, the five calls and those by
-- survey and reading, each getting the table as the last one left it.
use Prim.Native.Nat.{ℕ, ◌+◌, ◌^◌, ◌<◌}
use mathlib.Core.Path.{◌≡◌}
use mathlib.Core.List.{List, []}
use mathlib.Core.Bool.{true}
use mathlib.Core.Option.{none}
use lib.ListN.{length, length-map}
use Rattle.refusal.specs.Order.{afterwards}
use Rattle.layout.specs.Layout.{read_table, stock_of}
use Rattle.table.specs.Free.{write_table}
use Rattle.table.specs.Whole.{whole}
use Rattle.table.specs.Format.{formatted, format_refusal, format_bytes}
use Rattle.table.proofs.FormatLaws.{Passed, format-passes}
use Rattle.table.proofs.FormattedLaws.{formatted-fits}
use Rattle.a2m.specs.Call.{replies, works, after}
use Rattle.a2m.specs.TableCalls.{table_step}
use Rattle.survey.specs.Requests.{Request, request_step, AllWideRequests}
use Rattle.model.specs.Log.{fresh_log}
use Rattle.model.specs.Model.{rules, new_model, total}
use Rattle.model.specs.ModelRequests.{model_request}
use Rattle.model.specs.Claim.{asking, ListClaim}
use Rattle.model.proofs.Backed.{new_backed}
use Rattle.model.proofs.ImageClaim.{new-keeps}
use Rattle.model.proofs.Fresh.{formatted-rep, fresh_sound}
use Rattle.model.proofs.TableClaim.{Stands, table-claim, table-whole, table-count}

module _ (lent : List ℕ) (G S keeper : ℕ) (key reserves : List ℕ) (k64 : keeper < 2 ^ 64) (accepted : format_refusal (length lent) G S (length key) reserves ≡ none) where
  passes : Passed (length lent) G S (length key) reserves
  passes = format-passes (length lent) G S (length key) reserves accepted

  pub stands : Stands (formatted S keeper key reserves) (new_model S keeper key reserves)
  stands =
      record {
        says = formatted-rep S keeper key reserves passes.counts.slots-least;
        sound = fresh_sound S keeper key reserves;
        backed = new_backed S keeper key reserves passes.together;
        fits = formatted-fits S keeper key reserves G passes.reserved passes.counts passes.together k64 passes.key;
        counts = rw (length-map reserves fresh_log, passes.reserved) passes.counts;
      }

  pub bytes-are : format_bytes lent G S keeper key reserves ≡ write_table (formatted S keeper key reserves)
  unfolding format_bytes afterwards
  bytes-are = rw (accepted, format_bytes)

  pub list_claim : (qs : List Request) → AllWideRequests qs → ListClaim (new_model S keeper key reserves) (asking rules qs) (replies (request_step table_step) (format_bytes lent G S keeper key reserves) qs) (works (request_step table_step) (format_bytes lent G S keeper key reserves) qs) (read_table (after (request_step table_step) (format_bytes lent G S keeper key reserves) qs))
  unfolding after replies works
  list_claim qs w = rw bytes-are (table-claim (new_model S keeper key reserves) (new-keeps S keeper key reserves k64) [] tt (formatted S keeper key reserves) stands qs w)

  -- the table is whole before and after each call
  pub stays_whole : (qs : List Request) → AllWideRequests qs → whole (after (request_step table_step) (format_bytes lent G S keeper key reserves) qs) ≡ true
  stays_whole qs w = rw bytes-are (table-whole (formatted S keeper key reserves) (new_model S keeper key reserves) stands qs w)

  -- request [1]: the number on the status screen and the entries of the plain book make S after every list of requests
  pub count_along : (qs : List Request) → AllWideRequests qs → (stock_of (after (request_step table_step) (format_bytes lent G S keeper key reserves) qs)).count + total (after (model_request rules) (new_model S keeper key reserves) qs).logs ≡ S
  count_along qs w = rw bytes-are (table-count (formatted S keeper key reserves) (new_model S keeper key reserves) stands qs w)
