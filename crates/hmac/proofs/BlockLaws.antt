-- The blocks that a tag takes (document 02 [2]), and what `tag_of` computes.
use mathlib.Core.Path.{◌≡◌, refl, ap, ap₂, ◌∙◌}
use Prim.Native.Nat.{ℕ, ◌+◌, ◌*◌, ◌/◌, ◌^◌, ◌≤◌, ◌<◌}
use native.Mathlib.Omega.{arith}
use mathlib.Core.Bool.{Bool, true, false}
use mathlib.Core.List.{List, ◌++◌}
use lib.Dec.{leb}
use lib.ListN.{length, length-append, length-map, length-replicate}
use borrow.Author.Tests.{le-leb, lt-leb, leb-true, leb-false}
use Rattle.octets.specs.Octets.{zeros}
use Rattle.sha256.specs.Sha256.{sha256, block_count}
use Rattle.sha256.proofs.Padding.{count-is}
use Rattle.sha256.proofs.Sizes.{length-sha256}
use Rattle.hmac.specs.Hmac.{short_key, padded, masked, inner, outer, hmac, key_blocks, tag_blocks}
use Rattle.hmac.proofs.Keys.{short-key, long-key}

pub no-key-blocks : (key : List ℕ) → length key ≤ 64 → 0 ≡ key_blocks key
unfolding key_blocks
no-key-blocks key h = simp (le-leb (length key) 64 h)

pub key-blocks : (key : List ℕ) → 64 < length key → block_count key ≡ key_blocks key
unfolding key_blocks
key-blocks key h = simp (lt-leb (length key) 64 h)

-- a key's blocks hold it and its padding
pub key-few : (key : List ℕ) → key_blocks key * 64 ≤ length key + 72
key-few key = go (leb (length key) 64) refl
  where
    go : (t : Bool) → leb (length key) 64 ≡ t → key_blocks key * 64 ≤ length key + 72
    go true h = omega (arith, no-key-blocks key (leb-true (length key) 64 h))
    go false h = omega (arith, key-blocks key (leb-false (length key) 64 h), count-is key)

-- a block, and a text after it
pub prefixed-count : (b m : List ℕ) → length b ≡ 64 → block_count (b ++ m) ≡ (length m + 136) / 64
prefixed-count b m h = count-is (b ++ m) ∙ ap (λ (n : ℕ). n / 64) (rw length-append (omega arith))

short-fits : (key : List ℕ) → length (short_key key) ≤ 64
short-fits key = go (leb (length key) 64) refl
  where
    go : (t : Bool) → leb (length key) 64 ≡ t → length (short_key key) ≤ 64
    go true h = let k : length key ≤ 64 = leb-true (length key) 64 h in omega (arith, ap length (short-key key k))
    go false h = omega (arith, ap length (long-key key (leb-false (length key) 64 h)), length-sha256 key)

length-pad : (x : ℕ) (key : List ℕ) → length (masked x (padded (short_key key))) ≡ 64
unfolding masked padded zeros
length-pad x key = length-map (padded (short_key key)) _ ∙ simp (length-append, length-replicate) (omega (arith, short-fits key))

-- the blocks of a tag, from the lengths of the key and the text alone
pub tag-count : (key text : List ℕ) → tag_blocks key text ≡ key_blocks key + (length text + 136) / 64 + 2
unfolding tag_blocks inner outer
tag-count key text =
    let i = prefixed-count (masked 0x36 (padded (short_key key))) text (length-pad 0x36 key) in
    let t : List ℕ = sha256 (masked 0x36 (padded (short_key key)) ++ text) in
    let o = prefixed-count (masked 0x5c (padded (short_key key))) t (length-pad 0x5c key) in
    let two : (length t + 136) / 64 ≡ 2 = omega (arith, length-sha256 (masked 0x36 (padded (short_key key)) ++ text)) in
    ap₂ (λ (m n : ℕ). key_blocks key + m + n) i (o ∙ two)

-- so a count of them fits
pub tag_fits : (key text : List ℕ) → length key < 2 ^ 61 → 64 + length text < 2 ^ 61 → tag_blocks key text < 2 ^ 64
tag_fits key text hk ht = omega (arith, tag-count key text, key-few key)

-- "a lookup or end 6": a key of 32 bytes and a text of 128
pub tag_six : (key text : List ℕ) → length key ≡ 32 → length text ≡ 128 → tag_blocks key text ≡ 6
tag_six key text hk ht = tag-count key text ∙ omega (arith, no-key-blocks key (omega arith))

-- what `tag_of` computes: the key's block b, the masked blocks p and q, the digests d and t, and the blocks of the three hashes
module _ (key text b p q d t : List ℕ) (i j k : ℕ) (eb : (b ≡ padded (short_key key)) × (i ≡ key_blocks key)) (ep : p ≡ masked 0x36 b)
    (ed : (d ≡ sha256 (p ++ text)) × (j ≡ block_count (p ++ text))) (eq : q ≡ masked 0x5c b) (et : (t ≡ sha256 (q ++ d)) × (k ≡ block_count (q ++ d))) where
  inner-is : p ++ text ≡ inner key text
  unfolding inner
  inner-is = ap (λ (l : List ℕ). l ++ text) (ep ∙ ap (masked 0x36) eb.0)

  outer-is : q ++ d ≡ outer key text
  unfolding outer
  outer-is = ap₂ (λ (l m : List ℕ). l ++ m) (eq ∙ ap (masked 0x5c) eb.0) (ed.0 ∙ ap sha256 inner-is)

  pub tag_is : (t ≡ hmac key text) × (i + j + k ≡ tag_blocks key text)
  unfolding hmac tag_blocks
  tag_is = (
    et.0 ∙ ap sha256 outer-is,
    ap₂ (λ (m n : ℕ). m + n) (ap₂ (λ (m n : ℕ). m + n) eb.1 (ed.1 ∙ ap block_count inner-is)) (et.1 ∙ ap block_count outer-is),
  )
