-- A running hash: what has been absorbed so far, and what absorbing and finishing give.
--
use Rattle.std.specs.Prelude.{ℕ, ◌+◌, ◌*◌, ◌/◌, List, [], ◌++◌, length, drop}
use Rattle.sha256.specs.Sha256.{H0, blocks as blocks_after, padding, bytes}
use Rattle.refusal.specs.declared.Hashed.{Hashed}

-- the hash value after the whole blocks, the bytes after them, the number of all bytes, and of the blocks compressed
pub record State : Type 0 where
  pub value : List ℕ
  pub rest : List ℕ
  pub size : ℕ
  pub blocks : ℕ

-- whole blocks, n bytes of them, made the hash value h
unfoldable pub after : Hashed (List ℕ) → ℕ → State
after h n = record { value = h.value; rest = []; size = n; blocks = h.blocks }

unfoldable pub start : State
start = record { value = H0; rest = []; size = 0; blocks = 0 }

unfoldable pub absorbed : State → List ℕ → State
absorbed s m = record {
  value = blocks_after (length (s.rest ++ m) / 64) s.value (s.rest ++ m);
  rest = drop (length (s.rest ++ m) / 64 * 64) (s.rest ++ m);
  size = s.size + length m;
  blocks = s.blocks + length (s.rest ++ m) / 64;
}

-- the digest, and the number of all blocks compressed: what is left and the padding are absorbed too
unfoldable pub finished : State → List ℕ
finished s = bytes (absorbed s (padding s.size)).value

unfoldable pub finished_blocks : State → ℕ
finished_blocks s = (absorbed s (padding s.size)).blocks
