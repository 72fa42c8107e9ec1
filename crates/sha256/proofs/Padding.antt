-- The last bytes of a message and the padding, as they stand in an array of one or two blocks; and the number of blocks.
--
use mathlib.Core.Path.{◌≡◌, refl, sym, ap, ap₂, ◌∙◌}
use Prim.Native.Nat.{ℕ, zero, suc, ◌+◌, ◌-◌, ◌*◌, ◌/◌, ◌%◌, ◌≤◌}
use native.Mathlib.Nat.{not-suc-le-zero, zero-add}
use native.Mathlib.Omega.{arith}
use mathlib.Core.List.{List, [], ◌∷◌, ◌++◌, append_assoc}
use lib.ListN.{length, take, drop, set, replicate, length-append, length-replicate, length-take}
use lib.Seq.{take_at, take-append-add}
use Rattle.bigendian.specs.BigEndian.{be}
use Rattle.octets.specs.Octets.{splice}
use Rattle.octets.proofs.Parts.{splice-byte, splice-append, splice_nested, length-splice}
use Rattle.bigendian.proofs.Laws.{length-be}
use Rattle.sha256.specs.Sha256.{padding, pad, block_count}

-- so many zeros, from anywhere among zeros
among : (j k n a : ℕ) → j + k ≤ n → take k (drop j (replicate n a)) ≡ replicate k a
among zero zero n a h = refl
among zero (suc k) zero a h = absurd (not-suc-le-zero {n = 0} (omega arith))
among zero (suc k) (suc n) a h = ap (λ (l : List ℕ). a ∷ l) (among zero k n a (omega arith))
among (suc j) k zero a h = absurd (not-suc-le-zero {n = 0} (omega arith))
among (suc j) k (suc n) a h = among j k n a (omega arith)

-- the number of blocks that f bytes, fewer than a block, make with the padding
abbrev pub last_blocks : ℕ → ℕ
last_blocks f = (f + 72) / 64

-- what is stored in an array: the bytes r, the bit 1, and the length in the last 8 bytes of those blocks
abbrev pub tail : List ℕ → List ℕ → ℕ → List ℕ
tail l r n = splice (set (splice l 0 r) (n % 64) 128) (last_blocks (n % 64) * 64 - 8) (be 8 (n * 8))

module _ (l r : List ℕ) (n : ℕ) (blank : l ≡ replicate (length l) 0) (long : last_blocks (n % 64) * 64 ≤ length l) (size : length r ≡ n % 64) where
  zeros : ℕ
  zeros = (119 - n % 64) % 64

  at : ℕ
  at = last_blocks (n % 64) * 64 - 8

  -- the bytes and the bit 1
  marked : List ℕ
  marked = r ++ (128 ∷ [])

  length_marked : length marked ≡ n % 64 + 1
  unfolding marked
  length_marked = length-append r (128 ∷ []) ∙ ap (λ (i : ℕ). i + 1) size

  begun-is : set (splice l 0 r) (n % 64) 128 ≡ splice l 0 marked
  unfolding marked
  begun-is =
      ap (λ (i : ℕ). set (splice l 0 r) i 128) (sym size)
      ∙ splice-byte (splice l 0 r) (length r) 128 (omega (arith, size, long, length-splice l r 0 (omega (arith, size, long))))
      ∙ ap (λ (i : ℕ). splice (splice l 0 r) i (128 ∷ [])) (sym (zero-add (length r)))
      ∙ splice-append l 0 r (128 ∷ []) (omega (arith, size, long))

  length-begun : length (splice l 0 marked) ≡ length l
  length-begun = length-splice l marked 0 (omega (arith, length_marked, long))

  pub length-tail : length (tail l r n) ≡ length l
  length-tail =
      ap (λ (b : List ℕ). length (splice b (last_blocks (n % 64) * 64 - 8) (be 8 (n * 8)))) begun-is
      ∙ length-splice (splice l 0 marked) (be 8 (n * 8)) (last_blocks (n % 64) * 64 - 8) (omega (arith, length-begun, length-be 8 (n * 8)))
      ∙ length-begun

  -- up to the length
  front : take at (splice l 0 marked) ≡ marked ++ replicate zeros 0
  unfolding zeros at
  front =
      let e : last_blocks (n % 64) * 64 - 8 ≡ length marked + (119 - n % 64) % 64 = omega (arith, length_marked) in
      ap₂ take e (splice_nested l 0 marked)
      ∙ take-append-add marked (drop (0 + length marked) l) ((119 - n % 64) % 64)
      ∙ ap (λ (t : List ℕ). marked ++ t)
      (ap (λ (t : List ℕ). take ((119 - n % 64) % 64) (drop (0 + length marked) t)) blank
      ∙ among (0 + length marked) ((119 - n % 64) % 64) (length l) 0 (omega (arith, long, length_marked)))

  pub tail-is : take (last_blocks (n % 64) * 64) (tail l r n) ≡ r ++ padding n
  unfolding padding at zeros marked
  tail-is =
      let b : List ℕ = be 8 (n * 8) in
      let e : length (take at (splice l 0 marked) ++ b) ≡ last_blocks (n % 64) * 64 = simp (length-append, length-take) (omega (arith, length-begun, length-be 8 (n * 8))) in
      ap (λ (t : List ℕ). take (last_blocks (n % 64) * 64) (splice t at b)) begun-is
      ∙ ap (take (last_blocks (n % 64) * 64)) (splice_nested (splice l 0 marked) at b)
      ∙ take_at (take at (splice l 0 marked) ++ b) (drop (at + length b) (splice l 0 marked)) (last_blocks (n % 64) * 64) e
      ∙ ap (λ (t : List ℕ). t ++ b) front
      ∙ append_assoc (r ++ (128 ∷ [])) (replicate zeros 0) b
      ∙ append_assoc r (128 ∷ []) (replicate zeros 0 ++ b)

-- the number of blocks, from the length of the message alone
pub count-is : (m : List ℕ) → block_count m ≡ (length m + 72) / 64
unfolding block_count pad padding
count-is m = simp (length-append, length-replicate) (omega (arith, length-be 8 (length m * 8)))
