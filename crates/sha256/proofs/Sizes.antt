-- A digest has 32 elements, each a byte.
use mathlib.Core.Path.{◌≡◌, refl, ap, ◌∙◌}
use Prim.Native.Nat.{ℕ, zero, suc, ◌*◌}
use mathlib.Core.List.{List, [], ◌∷◌}
use native.Mathlib.Omega.{arith}
use lib.ListN.{length}
use Rattle.octets.specs.Octets.{Bytes}
use Rattle.octets.proofs.Parts.{bytes-append}
use Rattle.bigendian.specs.BigEndian.{be}
use Rattle.bigendian.proofs.Laws.{bytes-be}
use Rattle.sha256.specs.Sha256.{H0, added, compress, blocks, block_count, pad, bytes, sha256}
use Rattle.sha256.proofs.Bytes.{length-bytes}

length-blocks : (n : ℕ) (m : List ℕ) → length (blocks n H0 m) ≡ 8
unfolding blocks compress added H0
length-blocks zero m = refl
length-blocks (suc n) m = refl

pub length-sha256 : (m : List ℕ) → length (sha256 m) ≡ 32
unfolding sha256
length-sha256 m = length-bytes (blocks (block_count m) H0 (pad m)) ∙ ap (λ (n : ℕ). n * 4) (length-blocks (block_count m) (pad m))

bytes-bytes : (ws : List ℕ) → Bytes (bytes ws)
unfolding bytes
bytes-bytes [] i = omega arith
bytes-bytes (w ∷ ws) i = bytes-append (be 4 w) (bytes ws) (bytes-be 4 w) (bytes-bytes ws) i

pub bytes-sha256 : (m : List ℕ) → Bytes (sha256 m)
unfolding sha256
bytes-sha256 m = bytes-bytes (blocks (block_count m) H0 (pad m))
