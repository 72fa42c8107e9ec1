-- The choice of FIPS 180-4 by one operation fewer: z ^ (x & (y ^ z)) is (x & y) ^ (!x & z), shown bit by bit.
--
use mathlib.Core.Path.{◌≡◌, refl, sym, ap, ap₂, ◌∙◌}
use Prim.Native.Nat.{ℕ, zero, suc, ◌+◌, ◌-◌, ◌*◌, ◌/◌, ◌%◌, ◌^◌, ◌<◌}
use native.Mathlib.Nat.{div-add-mod'}
use native.Mathlib.Omega.{arith}
use lib.Arith.{lt-one}
use lib.Bits.{bit_and, bit_xor, and_shr, xor_shr, and_mod, xor_mod}
use Rattle.sha256.specs.Words.{Ch}
use Rattle.sha256.proofs.Bitwise.{triples}

abbrev short : ℕ → ℕ → ℕ → ℕ
short x y z = bit_xor z (bit_and x (bit_xor y z))

abbrev long : ℕ → ℕ → ℕ → ℕ → ℕ
long n x y z = bit_xor (bit_and x y) (bit_and n z)

short-step : (x y z : ℕ) → short x y z ≡ short (x / 2) (y / 2) (z / 2) * 2 + short (x % 2) (y % 2) (z % 2)
short-step x y z =
    sym (div-add-mod' (short x y z) 2)
    ∙ ap₂ (λ (q r : ℕ). q * 2 + r)
    (xor_shr z (bit_and x (bit_xor y z)) 1 ∙ ap (bit_xor (z / 2)) (and_shr x (bit_xor y z) 1 ∙ ap (bit_and (x / 2)) (xor_shr y z 1)))
    (xor_mod z (bit_and x (bit_xor y z)) 1 ∙ ap (bit_xor (z % 2)) (and_mod x (bit_xor y z) 1 ∙ ap (bit_and (x % 2)) (xor_mod y z 1)))

long-step : (n x y z : ℕ) → long n x y z ≡ long (n / 2) (x / 2) (y / 2) (z / 2) * 2 + long (n % 2) (x % 2) (y % 2) (z % 2)
long-step n x y z =
    sym (div-add-mod' (long n x y z) 2)
    ∙ ap₂ (λ (q r : ℕ). q * 2 + r)
    (xor_shr (bit_and x y) (bit_and n z) 1 ∙ ap₂ bit_xor (and_shr x y 1) (and_shr n z 1))
    (xor_mod (bit_and x y) (bit_and n z) 1 ∙ ap₂ bit_xor (and_mod x y 1) (and_mod n z 1))

bits : (a b c : ℕ) → a < 2 → b < 2 → c < 2 → short a b c ≡ long (1 - a) a b c
bits = triples (λ (a b c : ℕ). short a b c ≡ long (1 - a) a b c) (refl, refl, refl, refl, refl, refl, refl, refl)

same : (k x y z : ℕ) → x < 2 ^ k → y < 2 ^ k → z < 2 ^ k → short x y z ≡ long (2 ^ k - 1 - x) x y z
same zero x y z hx hy hz =
    let ex : x ≡ 0 = lt-one hx in
    let ez : z ≡ 0 = lt-one hz in
    rw (ex, ez)
same (suc k) x y z hx hy hz =
    let n : ℕ = 2 ^ suc k - 1 - x in
    let half : n / 2 ≡ 2 ^ k - 1 - x / 2 = omega arith in
    let low : n % 2 ≡ 1 - x % 2 = omega arith in
    short-step x y z
    ∙ ap₂ (λ (q r : ℕ). q * 2 + r)
    (same k (x / 2) (y / 2) (z / 2) (omega arith) (omega arith) (omega arith) ∙ ap (λ (m : ℕ). long m (x / 2) (y / 2) (z / 2)) (sym half))
    (bits (x % 2) (y % 2) (z % 2) (omega arith) (omega arith) (omega arith) ∙ ap (λ (m : ℕ). long m (x % 2) (y % 2) (z % 2)) (sym low))
    ∙ sym (long-step n x y z)

pub choice-is : (x y z : ℕ) → x < 2 ^ 32 → y < 2 ^ 32 → z < 2 ^ 32 → bit_xor z (bit_and x (bit_xor y z)) ≡ Ch x y z
unfolding Ch
choice-is x y z hx hy hz = same 32 x y z hx hy hz
