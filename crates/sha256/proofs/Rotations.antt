-- Rotations of a word, for every number of places: a rotation of an exclusive or is one of each, and two in a row are one by
-- the sum. So the three rotations of Σ0 and of Σ1 can be made of smaller ones, each of what the last one gave.
--
use mathlib.Core.Path.{◌≡◌, sym, ap, ap₂, ◌∙◌, subst}
use Prim.Native.Nat.{ℕ, ◌+◌, ◌-◌, ◌*◌, ◌/◌, ◌%◌, ◌^◌, ◌<◌, ◌≤◌}
use native.Mathlib.Nat.{mul_assoc, mul_comm, add-mul, add_assoc, add_comm, div-add-mod', mod-lt}
use native.Mathlib.Omega.{arith}
use lib.Arith.{digits_lt, digits_div, digits_mod, mod-mul}
use lib.Bits.{bit_or, bit_xor, or_shifted_r, xor_block, xor_lt, xor_assoc}
use lib.Pow.{pow_pos, pow-add, shl_lt, shr_lt, shr-shr}
use Rattle.sha256.specs.Words.{rotr}

-- a word's places are those of its low part and of its high part
places : (k : ℕ) → k ≤ 32 → k + (32 - k) ≡ 32
places k h = omega arith

-- the low k bits and the rest change places
pub swapped : (k h l : ℕ) → k ≤ 32 → l < 2 ^ k → h < 2 ^ (32 - k) → rotr k (h * 2 ^ k + l) ≡ l * 2 ^ (32 - k) + h
unfolding rotr
swapped k h l few low high = ap₂ bit_or (digits_div h low) top ∙ or_shifted_r l (32 - k) h high
  where
    wide : l * 2 ^ (32 - k) < 2 ^ 32
    wide = subst (λ (n : ℕ). l * 2 ^ (32 - k) < 2 ^ n) (places k few) (shl_lt k (32 - k) low)

    top : (h * 2 ^ k + l) * 2 ^ (32 - k) % 2 ^ 32 ≡ l * 2 ^ (32 - k)
    top =
        ap (λ (n : ℕ). n % 2 ^ 32)
        (add-mul (h * 2 ^ k) l (2 ^ (32 - k))
        ∙ ap (λ (n : ℕ). n + l * 2 ^ (32 - k))
        (mul_assoc h (2 ^ k) (2 ^ (32 - k)) ∙ ap (λ (n : ℕ). h * n) (sym (pow-add 2 k (32 - k)) ∙ ap (λ (n : ℕ). 2 ^ n) (places k few))))
        ∙ digits_mod h wide

-- the high part of a word
high_lt : (k x : ℕ) → k ≤ 32 → x < 2 ^ 32 → x / 2 ^ k < 2 ^ (32 - k)
high_lt k x few h = shr_lt (32 - k) k (subst (λ (n : ℕ). x < 2 ^ n) (sym (places k few) ∙ add_comm k (32 - k)) h)

-- a word as its high and low part
pub rotr-is : (k x : ℕ) → k ≤ 32 → x < 2 ^ 32 → rotr k x ≡ x % 2 ^ k * 2 ^ (32 - k) + x / 2 ^ k
rotr-is k x few h =
    ap (rotr k) (sym (div-add-mod' x (2 ^ k))) ∙ swapped k (x / 2 ^ k) (x % 2 ^ k) few (mod-lt x (pow_pos k)) (high_lt k x few h)

pub rotr-xor : (k x y : ℕ) → k ≤ 32 → x < 2 ^ 32 → y < 2 ^ 32 → rotr k (bit_xor x y) ≡ bit_xor (rotr k x) (rotr k y)
rotr-xor k x y few hx hy =
    ap (rotr k)
    (ap₂ bit_xor (sym (div-add-mod' x (2 ^ k))) (sym (div-add-mod' y (2 ^ k)))
    ∙ xor_block k (x / 2 ^ k) (y / 2 ^ k) (x % 2 ^ k) (y % 2 ^ k) (mod-lt x (pow_pos k)) (mod-lt y (pow_pos k)))
    ∙ swapped k (bit_xor (x / 2 ^ k) (y / 2 ^ k)) (bit_xor (x % 2 ^ k) (y % 2 ^ k)) few
    (xor_lt k (x % 2 ^ k) (y % 2 ^ k) (mod-lt x (pow_pos k)) (mod-lt y (pow_pos k)))
    (xor_lt (32 - k) (x / 2 ^ k) (y / 2 ^ k) (high_lt k x few hx) (high_lt k y few hy))
    ∙ sym (xor_block (32 - k) (x % 2 ^ k) (y % 2 ^ k) (x / 2 ^ k) (y / 2 ^ k) (high_lt k x few hx) (high_lt k y few hy))
    ∙ sym (ap₂ bit_xor (rotr-is k x few hx) (rotr-is k y few hy))

-- a power taken apart
power : (i j k : ℕ) → i ≡ j + k → 2 ^ i ≡ 2 ^ j * 2 ^ k
power i j k e = ap (λ (n : ℕ). 2 ^ n) e ∙ pow-add 2 j k

pub rotr-rotr : (m n x : ℕ) → m + n ≤ 32 → x < 2 ^ 32 → rotr n (rotr m x) ≡ rotr (m + n) x
rotr-rotr m n x few h =
    ap (rotr n) (rotr-is m x (omega arith) h ∙ first)
    ∙ swapped n (c * r + a) b (omega arith) (mod-lt (x / 2 ^ m) (pow_pos n)) bound
    ∙ second
    ∙ sym (rotr-is (m + n) x few h ∙ ap₂ (λ (u v : ℕ). u * r + v) low (sym (shr-shr x m n)))
  where
    -- the word is a, b and c on end; r is the power for the places of a
    a : ℕ
    a = x / 2 ^ m / 2 ^ n

    b : ℕ
    b = x / 2 ^ m % 2 ^ n

    c : ℕ
    c = x % 2 ^ m

    r : ℕ
    r = 2 ^ (32 - (m + n))

    outer : 2 ^ (32 - m) ≡ r * 2 ^ n
    outer = let e : 32 - m ≡ 32 - (m + n) + n = omega arith in power (32 - m) (32 - (m + n)) n e

    inner : 2 ^ (32 - n) ≡ 2 ^ m * r
    inner = let e : 32 - n ≡ m + (32 - (m + n)) = omega arith in power (32 - n) m (32 - (m + n)) e

    first : c * 2 ^ (32 - m) + x / 2 ^ m ≡ (c * r + a) * 2 ^ n + b
    first =
        ap₂ (λ (u v : ℕ). c * u + v) outer (sym (div-add-mod' (x / 2 ^ m) (2 ^ n)))
        ∙ ap (λ (u : ℕ). u + (a * 2 ^ n + b)) (sym (mul_assoc c r (2 ^ n)))
        ∙ sym (add_assoc (c * r * 2 ^ n) (a * 2 ^ n) b)
        ∙ ap (λ (u : ℕ). u + b) (sym (add-mul (c * r) a (2 ^ n)))

    bound : c * r + a < 2 ^ (32 - n)
    bound =
        subst (λ (u : ℕ). c * r + a < u) (sym inner)
        (digits_lt (mod-lt x (pow_pos m)) (subst (λ (u : ℕ). u < r) (sym (shr-shr x m n)) (high_lt (m + n) x few h)))

    second : b * 2 ^ (32 - n) + (c * r + a) ≡ (b * 2 ^ m + c) * r + a
    second =
        ap (λ (u : ℕ). b * u + (c * r + a)) inner
        ∙ ap (λ (u : ℕ). u + (c * r + a)) (sym (mul_assoc b (2 ^ m) r))
        ∙ sym (add_assoc (b * 2 ^ m * r) (c * r) a)
        ∙ ap (λ (u : ℕ). u + a) (sym (add-mul (b * 2 ^ m) c r))

    low : x % 2 ^ (m + n) ≡ b * 2 ^ m + c
    low = ap (λ (u : ℕ). x % u) (pow-add 2 m n ∙ mul_comm (2 ^ m) (2 ^ n)) ∙ mod-mul x (pow_pos n) (pow_pos m)

rotr-lt : (k x : ℕ) → k ≤ 32 → x < 2 ^ 32 → rotr k x < 2 ^ 32
rotr-lt k x few h =
    subst (λ (u : ℕ). u < 2 ^ 32) (sym (rotr-is k x few h))
    (subst (λ (u : ℕ). x % 2 ^ k * 2 ^ (32 - k) + x / 2 ^ k < u) (sym (pow-add 2 k (32 - k)) ∙ ap (λ (n : ℕ). 2 ^ n) (places k few))
    (digits_lt (mod-lt x (pow_pos k)) (high_lt k x few h)))

-- two rotations of a word, the second made from the first
pub paired : (i j x : ℕ) → i + j ≤ 32 → x < 2 ^ 32 → rotr i (bit_xor x (rotr j x)) ≡ bit_xor (rotr i x) (rotr (j + i) x)
paired i j x few h =
    rotr-xor i x (rotr j x) (omega arith) h (rotr-lt j x (omega arith) h) ∙ ap (bit_xor (rotr i x)) (rotr-rotr j i x (omega arith) h)

-- three rotations of a word, each made from the last
pub chained : (i j k x : ℕ) → i + j + k ≤ 32 → x < 2 ^ 32
    → rotr i (bit_xor x (rotr j (bit_xor x (rotr k x)))) ≡ bit_xor (bit_xor (rotr i x) (rotr (j + i) x)) (rotr (k + j + i) x)
chained i j k x few h =
    rotr-xor i x (rotr j (bit_xor x (rotr k x))) (omega arith) h (rotr-lt j (bit_xor x (rotr k x)) (omega arith) (xor_lt 32 x (rotr k x) h (rotr-lt k x (omega arith) h)))
    ∙ ap (bit_xor (rotr i x))
    (ap (rotr i) (paired j k x (omega arith) h)
    ∙ rotr-xor i (rotr j x) (rotr (k + j) x) (omega arith) (rotr-lt j x (omega arith) h) (rotr-lt (k + j) x (omega arith) h)
    ∙ ap₂ bit_xor (rotr-rotr j i x (omega arith) h) (rotr-rotr (k + j) i x (omega arith) h))
    ∙ sym (xor_assoc (rotr i x) (rotr (j + i) x) (rotr (k + j + i) x))
