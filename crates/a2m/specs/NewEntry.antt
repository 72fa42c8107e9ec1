-- The entry that an append or an advance puts.
use Rattle.std.specs.Prelude.{ℕ, List}
use Rattle.entry.specs.Digest.{entry_digest}
use Rattle.layout.specs.Image.{Entry}

-- the entry of value x at n, its digest by the log's rules
abbrev pub new_entry : ℕ → List ℕ → List ℕ → Entry
new_entry n x previous = record { position = n; value = x; digest = entry_digest n x previous }
