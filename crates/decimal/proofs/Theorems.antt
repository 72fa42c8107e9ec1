-- What decimal_of and number_of are: for every number below 2^64 the one text of digits without leading zeros that makes it.
use Prim.Native.Nat.{ℕ, zero, suc, ◌+◌, ◌*◌, ◌-◌, ◌/◌, ◌%◌, ◌^◌, ◌≤◌, ◌<◌}
use mathlib.Core.Path.{◌≡◌, refl, sym, ap, ap₂, subst, ◌∙◌}
use mathlib.Core.Logic.{◌↔◌}
use mathlib.Core.Bool.{Bool, true, false, cond, ◌&&◌}
use mathlib.Core.List.{List, [], ◌∷◌}
use native.Mathlib.Omega.{arith}
use native.Mathlib.Decide.{dec_le}
use native.Mathlib.Nat.{pow-suc, pow-zero, pow-le-pow_right, add-mul, mul_assoc, mul_comm, mul-le-mul_right, le-div_iff_mul-le}
use lib.ListN.{length, get_or}
use lib.Dec.{leb, ltb, eqb}
use borrow.Author.Tests.{lt-ltb, ltb-true, leb-true, eq-eqb}
use Rattle.octets.specs.Octets.{splice}
use Rattle.octets.proofs.Parts.{length-splice}
use Rattle.std.specs.Prelude.{Some, None}
use Rattle.std.proofs.lemmas.Bool.{and_parts}
use Rattle.decimal.specs.Decimal.{digits_of, decimal_from, decimal_of, is_digit, all_digits, value_after, value_of, starts_well, is_number, number_of}
use Rattle.decimal.proofs.Laws.{pow_pos, length-digits_of, digits_of-digits, value-digits_of, of_width, starts, quotient, remainder, below}

-- ---- the width of a number below 2^64

record Wide (n : ℕ) : Type 0 where
  k : ℕ
  some : 0 < k
  few : k ≤ 20
  holds : n < 10 ^ k
  least : 1 < k → 10 ^ (k - 1) ≤ n

-- the least width, down from one that holds n
wide_from : (k n : ℕ) → 0 < k → k ≤ 20 → n < 10 ^ k → Wide n
wide_from zero n z f h = absurd (omega arith)
wide_from (suc zero) n z f h = record { k = 1; some = omega arith; few = omega arith; holds = h; least = λ q. absurd (omega arith) }
wide_from (suc (suc k)) n z f h = go (dec_le (10 ^ suc k) n) (wide_from (suc k) n)
  where
    go : Dec (10 ^ suc k ≤ n) → (0 < suc k → suc k ≤ 20 → n < 10 ^ suc k → Wide n) → Wide n
    go (yes q) ih =
        let e : suc k ≡ suc (suc k) - 1 = omega arith in
        record { k = suc (suc k); some = omega arith; few = f; holds = h; least = λ p. subst (λ (j : ℕ). 10 ^ j ≤ n) e q }
    go (no q) ih = ih (omega arith) (omega arith) (omega arith)

wide : (n : ℕ) → n < 2 ^ 64 → Wide n
wide n h = wide_from 20 n (omega arith) (omega arith) (below n 20 h (omega arith))

spelt : (n : ℕ) (w : Wide n) → decimal_of n ≡ digits_of w.k n
spelt n w = of_width w.k n w.some w.few w.holds w.least

-- ---- the decimal of a number: its digits make the number, there is no leading zero

pub decimal-value : (n : ℕ) → n < 2 ^ 64 → value_of (decimal_of n) ≡ n
decimal-value n h =
    let w = wide n h in
    ap value_of (spelt n w) ∙ value-digits_of w.k n 0 w.holds ∙ omega arith

pub decimal-digits : (n : ℕ) → n < 2 ^ 64 → all_digits (decimal_of n) ≡ true
decimal-digits n h =
    let w = wide n h in
    ap all_digits (spelt n w) ∙ digits_of-digits w.k n w.holds

digits-head : (k n : ℕ) → 10 ^ k ≤ n → get_or (digits_of (suc k) n) 0 0 ≡ 48 → ⊥
unfolding digits_of
digits-head k n h e = omega (arith, (le-div_iff_mul-le {k = 10 ^ k} {x = 1} {y = n} (pow_pos k)).1 (omega arith))

pub decimal_starts : (n : ℕ) → n < 2 ^ 64 → starts_well (decimal_of n) ≡ true
decimal_starts n h =
    let w = wide n h in
    let e : w.k ≡ suc (w.k - 1) = omega arith in
    let l : length (digits_of w.k n) ≡ w.k = length-digits_of w.k n in
    ap starts_well (spelt n w) ∙ starts (digits_of w.k n) (omega (arith, w.some)) (λ p q. digits-head (w.k - 1) n (w.least (omega arith)) (ap (λ (j : ℕ). get_or (digits_of j n) 0 0) (sym e) ∙ q))

-- reading the decimal of n gives n
pub parse-decimal : (n : ℕ) → n < 2 ^ 64 → number_of (decimal_of n) ≡ Some n
unfolding number_of
parse-decimal n h =
    let v : value_of (decimal_of n) ≡ n = decimal-value n h in
    rw (decimal_starts n h, decimal-digits n h, v, lt-ltb n (2 ^ 64) h)

-- ---- whatever reads as a number is its decimal

value-split : (v : ℕ) (l : List ℕ) → value_after v l ≡ v * 10 ^ length l + value_of l
unfolding value_after
value-split v [] = omega (arith, pow-zero 10)
value-split v (b ∷ l) =
    let d : ℕ = b - 48 in
    let p : ℕ = 10 ^ length l in
    let e₁ : value_after (v * 10 + d) l ≡ (v * 10 + d) * p + value_of l = value-split (v * 10 + d) l in
    let e₂ : value_after (0 * 10 + d) l ≡ (0 * 10 + d) * p + value_of l = value-split (0 * 10 + d) l in
    let z : 0 * 10 + d ≡ d = omega arith in
    let e₃ : (0 * 10 + d) * p ≡ d * p = ap (λ (m : ℕ). m * p) z in
    let e₄ : (v * 10 + d) * p ≡ v * 10 * p + d * p = add-mul (v * 10) d p in
    let e₅ : v * 10 * p ≡ v * 10 ^ suc (length l) = mul_assoc v 10 p ∙ ap (λ (m : ℕ). v * m) (mul_comm 10 p ∙ sym (pow-suc 10 (length l))) in
    omega arith

value-lt : (l : List ℕ) → all_digits l ≡ true → value_of l < 10 ^ length l
unfolding all_digits value_after
value-lt [] h = omega (arith, pow-zero 10)
value-lt (b ∷ l) h =
    let t = and_parts (is_digit b) (all_digits l) h in
    let u = and_parts (leb 48 b) (leb b 57) t.0 in
    let i : value_of l < 10 ^ length l = value-lt l t.1 in
    let m : (0 * 10 + (b - 48)) * 10 ^ length l ≤ 9 * 10 ^ length l = mul-le-mul_right (10 ^ length l) (omega (arith, leb-true b 57 u.1)) in
    omega (arith, value-split (0 * 10 + (b - 48)) l, pow-suc 10 (length l))

digits_value : (l : List ℕ) → all_digits l ≡ true → digits_of (length l) (value_of l) ≡ l
unfolding digits_of all_digits value_after
digits_value [] h = refl
digits_value (b ∷ l) h =
    let t = and_parts (is_digit b) (all_digits l) h in
    let u = and_parts (leb 48 b) (leb b 57) t.0 in
    let v : ℕ = value_after (0 * 10 + (b - 48)) l in
    let i : value_of l < 10 ^ length l = value-lt l t.1 in
    let e : value_of l + (0 * 10 + (b - 48)) * 10 ^ length l ≡ v = omega (arith, value-split (0 * 10 + (b - 48)) l) in
    let q : 0 * 10 + (b - 48) ≡ v / 10 ^ length l = quotient v (10 ^ length l) (0 * 10 + (b - 48)) (value_of l) e i in
    let r : value_of l ≡ v % 10 ^ length l = remainder v (10 ^ length l) (0 * 10 + (b - 48)) (value_of l) e i in
    let hb : 48 + v / 10 ^ length l ≡ b = omega (arith, leb-true 48 b u.0) in
    ap₂ {C = List ℕ} (λ (x : ℕ) (y : List ℕ). x ∷ y) hb (ap (digits_of (length l)) (sym r) ∙ digits_value l t.1)

-- a text that starts well has the least width
head-least : (l : List ℕ) → all_digits l ≡ true → starts_well l ≡ true → 1 < length l → 10 ^ (length l - 1) ≤ value_of l
unfolding all_digits value_after
head-least [] h s z = absurd (omega arith)
head-least (b ∷ []) h s z = absurd (omega arith)
head-least (b ∷ c ∷ l) h s z =
    let t = and_parts (is_digit b) (all_digits (c ∷ l)) h in
    let u = and_parts (leb 48 b) (leb b 57) t.0 in
    let n : b ≡ 48 → ⊥ = λ e. let q : ◌≡◌ {A = ℕ} 0 1 = zero-first (eqb b 48) (eq-eqb b 48 e) s in omega arith in
    let m : 1 * 10 ^ length (c ∷ l) ≤ (0 * 10 + (b - 48)) * 10 ^ length (c ∷ l) = mul-le-mul_right (10 ^ length (c ∷ l)) (one_more b (leb-true 48 b u.0) n) in
    let e : length (b ∷ c ∷ l) - 1 ≡ length (c ∷ l) = omega arith in
    subst (λ (j : ℕ). 10 ^ j ≤ value_of (b ∷ c ∷ l)) (sym e) (omega (arith, value-split (0 * 10 + (b - 48)) (c ∷ l)))
  where
    zero-first : (t : Bool) → t ≡ true → cond t false true ≡ true → ◌≡◌ {A = ℕ} 0 1
    zero-first true p q = cc
    zero-first false p q = cc

    one_more : (b : ℕ) → 48 ≤ b → (b ≡ 48 → ⊥) → 1 ≤ 0 * 10 + (b - 48)
    one_more b p n = go (dec_le b 48)
      where
        go : Dec (b ≤ 48) → 1 ≤ 0 * 10 + (b - 48)
        go (yes q) = absurd (n (omega arith))
        go (no q) = omega arith

starts-some : (l : List ℕ) → starts_well l ≡ true → 0 < length l
starts-some [] e = let z : ◌≡◌ {A = ℕ} 0 1 = cc in absurd (omega arith)
starts-some (b ∷ l) e = omega arith

-- more than 20 digits make 10^20 or more
few-digits : (l : List ℕ) → all_digits l ≡ true → starts_well l ≡ true → value_of l < 2 ^ 64 → length l ≤ 20
few-digits l d s h = go (dec_le (length l) 20)
  where
    go : Dec (length l ≤ 20) → length l ≤ 20
    go (yes q) = q
    go (no q) =
        let m : 10 ^ 20 ≤ 10 ^ (length l - 1) = pow-le-pow_right {n = 10} (omega arith) {i = 20} {j = length l - 1} (omega arith) in
        absurd (omega (arith, head-least l d s (omega arith)))

-- digits without leading zeros are the decimal of what they make
only-decimal : (l : List ℕ) → starts_well l ≡ true → all_digits l ≡ true → value_of l < 2 ^ 64 → l ≡ decimal_of (value_of l)
only-decimal l s d h = sym (of_width (length l) (value_of l) (starts-some l s) (few-digits l d s h) (value-lt l d) (head-least l d s) ∙ digits_value l d)

-- document 02 [12]: "The text for every number below 2^64 is shown to be its decimal without leading zeros."
pub decimal_exactly : (n : ℕ) (l : List ℕ) → n < 2 ^ 64 → (l ≡ decimal_of n) ↔ ((all_digits l ≡ true) × (starts_well l ≡ true) × (value_of l ≡ n))
decimal_exactly n l h = (
  λ e. (ap all_digits e ∙ decimal-digits n h, ap starts_well e ∙ decimal_starts n h, ap value_of e ∙ decimal-value n h),
  λ t. only-decimal l t.1 t.0 (subst (λ (v : ℕ). v < 2 ^ 64) (sym t.2) h) ∙ ap decimal_of t.2,
)

-- what reads as v is the decimal of v, and v is below 2^64
pub parsed : (l : List ℕ) (v : ℕ) → number_of l ≡ Some v → (v < 2 ^ 64) × (l ≡ decimal_of v)
unfolding number_of
parsed l v e = go (is_number l) refl e
  where
    go : (t : Bool) → is_number l ≡ t → cond t (Some (value_of l)) None ≡ Some v → (v < 2 ^ 64) × (l ≡ decimal_of v)
    go false p q = let z : ◌≡◌ {A = ℕ} 0 1 = cc in absurd (omega arith)
    go true p q =
        let x : value_of l ≡ v = cc in
        let t = and_parts (starts_well l) (all_digits l && ltb (value_of l) (2 ^ 64)) p in
        let u = and_parts (all_digits l) (ltb (value_of l) (2 ^ 64)) t.1 in
        let b : value_of l < 2 ^ 64 = ltb-true (value_of l) (2 ^ 64) u.1 in
        (omega arith, only-decimal l t.0 u.0 b ∙ ap decimal_of x)

-- "0", and no other decimal starts with a zero
pub decimal-zero : decimal_of 0 ≡ 48 ∷ []
unfolding decimal_of decimal_from digits_of
decimal-zero = refl

pub decimal-head : (n : ℕ) → 0 < n → n < 2 ^ 64 → get_or (decimal_of n) 0 0 ≡ 48 → ⊥
decimal-head n z h q =
    let w = wide n h in
    let e : w.k ≡ suc (w.k - 1) = omega (arith, w.some) in
    digits-head (w.k - 1) n (all-least n w z (dec_le w.k 1))
    (ap (λ (j : ℕ). get_or (digits_of j n) 0 0) (sym e) ∙ ap (λ (l : List ℕ). get_or l 0 0) (sym (spelt n w)) ∙ q)
  where
    all-least : (n : ℕ) (w : Wide n) → 0 < n → Dec (w.k ≤ 1) → 10 ^ (w.k - 1) ≤ n
    all-least n w z (yes p) = let q : 0 ≡ w.k - 1 = omega arith in subst (λ (j : ℕ). 10 ^ j ≤ n) q (omega (arith, pow-zero 10))
    all-least n w z (no p) = w.least (omega arith)

-- ---- a decimal has at most 20 digits

from-length : (k n : ℕ) → length (decimal_from k n) ≤ k + 1
unfolding decimal_from
from-length zero n = omega (arith, length-digits_of 1 n)
from-length (suc k) n = go (ltb n (10 ^ suc k)) (from-length k n)
  where
    go : (t : Bool) → length (decimal_from k n) ≤ k + 1 → length (cond t (decimal_from k n) (digits_of (suc (suc k)) n)) ≤ suc k + 1
    go true h = omega arith
    go false h = omega (arith, length-digits_of (suc (suc k)) n)

pub length-decimal : (n : ℕ) → length (decimal_of n) ≤ 20
unfolding decimal_of
length-decimal n = omega (arith, from-length 19 n)

-- a decimal put into 20 bytes ends within them
pub put-within : (z l : List ℕ) (r n : ℕ) → length z ≡ 20 → r ≡ 0 + length (decimal_of n) → l ≡ splice z 0 (decimal_of n) → r ≤ length l
put-within z l r n e h k =
    omega (arith, h, e, ap length k, length-decimal n, length-splice z (decimal_of n) 0 (omega (arith, e, length-decimal n)))
