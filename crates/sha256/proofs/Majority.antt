-- The majority of FIPS 180-4 by one operation fewer, and with x ^ y used again in the next round, where it is y ^ z:
-- y ^ ((x ^ y) & (y ^ z)) is (x & y) ^ (x & z) ^ (y & z), shown bit by bit.
--
use mathlib.Core.Path.{◌≡◌, refl, sym, ap, ap₂, ◌∙◌}
use Prim.Native.Nat.{ℕ, ◌+◌, ◌*◌, ◌/◌, ◌%◌, ◌^◌, ◌<◌}
use native.Mathlib.Nat.{div-add-mod'}
use lib.Bits.{bit_and, bit_xor, and_shr, xor_shr, and_mod, xor_mod}
use Rattle.sha256.specs.Words.{Maj}
use Rattle.sha256.proofs.Bitwise.{Stepwise, OnBits, triples, agree}

abbrev short : ℕ → ℕ → ℕ → ℕ
short x y z = bit_xor y (bit_and (bit_xor x y) (bit_xor y z))

abbrev long : ℕ → ℕ → ℕ → ℕ
long x y z = bit_xor (bit_xor (bit_and x y) (bit_and x z)) (bit_and y z)

short-step : Stepwise short
short-step x y z =
    sym (div-add-mod' (short x y z) 2)
    ∙ ap₂ (λ (q r : ℕ). q * 2 + r)
    (xor_shr y (bit_and (bit_xor x y) (bit_xor y z)) 1 ∙ ap (bit_xor (y / 2)) (and_shr (bit_xor x y) (bit_xor y z) 1 ∙ ap₂ bit_and (xor_shr x y 1) (xor_shr y z 1)))
    (xor_mod y (bit_and (bit_xor x y) (bit_xor y z)) 1 ∙ ap (bit_xor (y % 2)) (and_mod (bit_xor x y) (bit_xor y z) 1 ∙ ap₂ bit_and (xor_mod x y 1) (xor_mod y z 1)))

long-step : Stepwise long
long-step x y z =
    sym (div-add-mod' (long x y z) 2)
    ∙ ap₂ (λ (q r : ℕ). q * 2 + r)
    (xor_shr (bit_xor (bit_and x y) (bit_and x z)) (bit_and y z) 1
    ∙ ap₂ bit_xor (xor_shr (bit_and x y) (bit_and x z) 1 ∙ ap₂ bit_xor (and_shr x y 1) (and_shr x z 1)) (and_shr y z 1))
    (xor_mod (bit_xor (bit_and x y) (bit_and x z)) (bit_and y z) 1
    ∙ ap₂ bit_xor (xor_mod (bit_and x y) (bit_and x z) 1 ∙ ap₂ bit_xor (and_mod x y 1) (and_mod x z 1)) (and_mod y z 1))

short-long : OnBits short long
short-long = triples (λ (a b c : ℕ). short a b c ≡ long a b c) (refl, refl, refl, refl, refl, refl, refl, refl)

pub majority-is : (x y z : ℕ) → x < 2 ^ 32 → y < 2 ^ 32 → z < 2 ^ 32 → bit_xor y (bit_and (bit_xor x y) (bit_xor y z)) ≡ Maj x y z
unfolding Maj
majority-is = agree short long short-step long-step short-long 32
