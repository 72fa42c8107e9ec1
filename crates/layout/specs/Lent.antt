-- What a call makes of a table that it is lent to be written.
use Rattle.std.specs.Prelude.{ℕ, ◌≡◌, List}
use Rattle.layout.specs.declared.tables.TableMut.{TableMut}

-- it is the same lent table, of the same counts, with the bytes b
pub record Becomes (old new : TableMut) (b : List ℕ) : Type 0 where
  pub same : new.table.ghost_name ≡ old.table.ghost_name
  pub counts : new.counts ≡ old.counts
  pub bytes : new.table.now ≡ b
