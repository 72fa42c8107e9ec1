-- The digest of an entry that has none before it.
use Prim.Native.Nat.{ℕ}
use mathlib.Core.Path.{◌≡◌, sym, ap, ◌∙◌}
use mathlib.Core.List.{List}
use Rattle.std.specs.Prelude.{Option, None}
use Rattle.octets.specs.Octets.{zeros}
use Rattle.layout.specs.Image.{slot_at}
use Rattle.layout.specs.Layout.{read_table}
use Rattle.entry.specs.Digest.{entry_digest}
use Rattle.a2m.specs.Opened.{slot_number}

-- the digest behind no slot is that behind 32 zero bytes
pub none_before : (b : List ℕ) {last : Option ℕ} (n : ℕ) (x : List ℕ) {r : List ℕ} → last ≡ None → r ≡ entry_digest n x (zeros 32) → r ≡ entry_digest n x (slot_at (read_table b).slots (slot_number last)).digest
unfolding slot_at
none_before b n x z e = e ∙ ap (λ (s : Option ℕ). entry_digest n x (slot_at (read_table b).slots (slot_number s)).digest) (sym z)
