-- HMAC (RFC 2104) with SHA-256: B = 64 bytes a block, L = 32 bytes a tag.
use Rattle.std.specs.Prelude.{ℕ, ◌+◌, ◌-◌, not, cond, List, [], ◌∷◌, ◌++◌, map, length, eqb, leb}
use Rattle.std.proofs.Math.Option.{Option}
use Rattle.std.specs.Int.Bits.{bit_xor}
use Rattle.octets.specs.Octets.{zeros}
use Rattle.refusal.specs.Order.{fault, first_fault}
use Rattle.sha256.specs.Sha256.{sha256, block_count}
use Rattle.sha256.specs.Hash.{too_long}

-- "Applications that use keys longer than B bytes will first hash the key"
unfoldable pub short_key : List ℕ → List ℕ
short_key key = cond (leb (length key) 64) key (sha256 key)

-- "append zeros to the end of K to create a B byte string"
unfoldable pub padded : List ℕ → List ℕ
padded k = k ++ zeros (64 - length k)

-- "XOR .. with ipad" and "with opad": the byte x repeated B times
unfoldable pub masked : ℕ → List ℕ → List ℕ
masked x bs = map (λ b. bit_xor b x) bs

-- the messages of the inner hash and of the outer one
unfoldable pub inner : List ℕ → List ℕ → List ℕ
inner key text = masked 0x36 (padded (short_key key)) ++ text

unfoldable pub outer : List ℕ → List ℕ → List ℕ
outer key text = masked 0x5c (padded (short_key key)) ++ sha256 (inner key text)

-- "H(K XOR opad, H(K XOR ipad, text))"
unfoldable pub hmac : List ℕ → List ℕ → List ℕ
hmac key text = sha256 (outer key text)

-- document 02 [2], the blocks hashed: of the key where it is hashed, and of the two messages
unfoldable pub key_blocks : List ℕ → ℕ
key_blocks key = cond (leb (length key) 64) 0 (block_count key)

unfoldable pub tag_blocks : List ℕ → List ℕ → ℕ
tag_blocks key text = key_blocks key + block_count (inner key text) + block_count (outer key text)

-- document 01, number 7, of a key, a text and the buffer for the tag: "a message to hash, HMAC's pad block counted with it"
unfoldable pub tag_refusal : List ℕ → List ℕ → List ℕ → Option ℕ
tag_refusal key text out =
    first_fault (fault 7 (not (eqb (length out) 32)) ∷ fault 7 (too_long (length key)) ∷ fault 7 (too_long (64 + length text)) ∷ [])
