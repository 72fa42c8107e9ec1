-- The model that an image says: each log's low, high, the entries along its chain, and its reserve.
use Rattle.std.specs.Prelude.{ℕ, length}
use Rattle.layout.specs.Image.{Image}
use Rattle.layout.specs.Lists.{tabulate}
use Rattle.a2m.specs.ImageCalls.{row_in, entries_in}
use Rattle.model.specs.Log.{Log}
use Rattle.model.specs.Model.{Model}

unfoldable pub log_in : Image → ℕ → Log
log_in m g = record { low = (row_in m g).low; high = (row_in m g).high; entries = entries_in m g; reserve = (row_in m g).reserve }

unfoldable pub model_of : Image → Model
model_of m = record { size = length m.slots; keeper = m.keeper; key = m.key; logs = tabulate (length m.rows) (log_in m) }
