-- Request [8]: "Carry such a table into a lent buffer of the present layout."
use Rattle.std.specs.Prelude.{ℕ, List, [], ◌∷◌, not, length, eqb}
use Rattle.std.proofs.Math.Option.{Option}
use Rattle.refusal.specs.Order.{fault, first_fault, afterwards}
use Rattle.layout.specs.Layout.{logs_of, slots_of, table_size}
use Rattle.layout.specs.Layout01.{read01}
use Rattle.table.specs.Free.{write_table}
use Rattle.table.specs.Whole01.{whole01}

-- "an old table that 01 calls torn gives 1, another buffer length then 7"
unfoldable pub carry_refusal : List ℕ → ℕ → Option ℕ
carry_refusal old size = first_fault (fault 1 (not (whole01 old)) ∷ fault 7 (not (eqb size (table_size (logs_of old) (slots_of old)))) ∷ [])

-- the lent buffer after the call. "G, S, keeper number, key and each log's L, H and entries in their slots stay, reserves become zero, and the free queue follows
-- the old chain": the bytes of the image that the old table says, whose rows have no reserve
unfoldable pub carry_bytes : List ℕ → List ℕ → List ℕ
carry_bytes old lent = afterwards (carry_refusal old (length lent)) (write_table (read01 old)) lent
