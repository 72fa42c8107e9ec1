-- The digest of an entry (document 01, "The log's rules").
use Rattle.std.specs.Prelude.{ℕ, List, ◌++◌}
use Rattle.bigendian.specs.BigEndian.{be}
use Rattle.sha256.specs.Sha256.{sha256}

-- "72 bytes: the new position (8), x (32), the digest of the entry at the old H (32)"
unfoldable pub block : ℕ → List ℕ → List ℕ → List ℕ
block n x previous = be 8 n ++ (x ++ previous)

-- "Its digest is SHA-256 of 72 bytes"; for advance "The given digest stands for the previous one"
unfoldable pub entry_digest : ℕ → List ℕ → List ℕ → List ℕ
entry_digest n x previous = sha256 (block n x previous)
