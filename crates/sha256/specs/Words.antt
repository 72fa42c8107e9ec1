-- The operations on 32-bit words of FIPS 180-4: 2.2.2, 3.2 and 4.1.2. A word is a number below 2^32.
--
use Rattle.std.specs.Prelude.{ℕ, ◌+◌, ◌-◌, ◌*◌, ◌/◌, ◌%◌, ◌^◌}
use Rattle.std.specs.Int.Bits.{bit_and, bit_or, bit_xor}

infixl 69 ◌⊞◌
-- addition modulo 2^32
abbrev pub ◌⊞◌ : ℕ → ℕ → ℕ
a ⊞ b = (a + b) % 2 ^ 32

-- rotation to the right by n, 0 < n < 32: the shift to the right by n, or the shift to the left by 32 - n
unfoldable pub rotr : ℕ → ℕ → ℕ
rotr n x = bit_or (x / 2 ^ n) (x * 2 ^ (32 - n) % 2 ^ 32)

-- each bit of x chooses that of y or that of z
unfoldable pub Ch : ℕ → ℕ → ℕ → ℕ
Ch x y z = bit_xor (bit_and x y) (bit_and (2 ^ 32 - 1 - x) z)

-- each bit is that of two at least of x, y and z
unfoldable pub Maj : ℕ → ℕ → ℕ → ℕ
Maj x y z = bit_xor (bit_xor (bit_and x y) (bit_and x z)) (bit_and y z)

unfoldable pub Σ0 : ℕ → ℕ
Σ0 x = bit_xor (bit_xor (rotr 2 x) (rotr 13 x)) (rotr 22 x)

unfoldable pub Σ1 : ℕ → ℕ
Σ1 x = bit_xor (bit_xor (rotr 6 x) (rotr 11 x)) (rotr 25 x)

unfoldable pub σ0 : ℕ → ℕ
σ0 x = bit_xor (bit_xor (rotr 7 x) (rotr 18 x)) (x / 2 ^ 3)

unfoldable pub σ1 : ℕ → ℕ
σ1 x = bit_xor (bit_xor (rotr 17 x) (rotr 19 x)) (x / 2 ^ 10)
