-- Laws of decimal text.
use Prim.Native.Nat.{ℕ, zero, suc, ◌+◌, ◌*◌, ◌-◌, ◌/◌, ◌%◌, ◌^◌, ◌≤◌, ◌<◌}
use mathlib.Core.Path.{◌≡◌, refl, sym, ap, ap₂, subst, ◌∙◌}
use mathlib.Core.Bool.{Bool, true, false, cond, ◌&&◌}
use mathlib.Core.List.{List, [], ◌∷◌, ◌++◌}
use Rattle.octets.specs.Octets.{splice}
use Rattle.octets.proofs.Parts.{splice_nested}
use Rattle.octets.proofs.Tests.{and-false}
use native.Mathlib.Omega.{arith}
use native.Mathlib.Decide.{dec_le}
use native.Mathlib.Nat.{pow-suc, pow-zero, one-le-pow, pow-le-pow_right, div-lt_iff_lt-mul, div-add-mod', mod-lt, mul-add-div_right, div-eq_of_lt, mul-add-mod_self_right, mod-eq_of_lt, add-mul, mul_assoc, mul_comm, mul-le-mul_right, add-zero}
use lib.ListN.{length, drop, take, get_or, set, drop_of_length-le}
use lib.Seq.{get_or-drop, drop-drop, drop-cons, paste, paste-suc, take_all}
use native.Mathlib.Numerals.{add-one}
use lib.Dec.{ltb}
use borrow.Author.Tests.{eq-eqb, lt-ltb, le-ltb, le-leb, ltb-true, ne_eqb}
use Rattle.std.specs.Prelude.{Option, Some, None}
use Rattle.decimal.specs.Decimal.{digits_of, decimal_from, decimal_of, is_digit, all_digits, value_after, starts_well, number_of, more_of, read_after}

-- ---- division by subtraction

pub small : (d p n : ℕ) → d * p ≤ n → n < 10 * p → d < 10
small d p n h k = go (dec_le 10 d)
  where
    go : Dec (10 ≤ d) → d < 10
    go (yes q) = let e : 10 * p ≤ d * p = mul-le-mul_right p q in absurd (omega arith)
    go (no q) = omega arith

pub quotient : (n p d r : ℕ) → r + d * p ≡ n → r < p → d ≡ n / p
quotient n p d r e h =
    let z : 0 < p = omega arith in
    let e₂ : d * p + r ≡ n = omega arith in
    sym (ap (λ (m : ℕ). m / p) (sym e₂) ∙ mul-add-div_right z d r ∙ ap (λ (m : ℕ). d + m) (div-eq_of_lt h) ∙ add-zero d)

pub remainder : (n p d r : ℕ) → r + d * p ≡ n → r < p → r ≡ n % p
remainder n p d r e h =
    let e₂ : d * p + r ≡ n = omega arith in
    sym (ap (λ (m : ℕ). m % p) (sym e₂) ∙ mul-add-mod_self_right d p r ∙ mod-eq_of_lt h)

-- how often m goes into n, three times at most
abbrev Often : ℕ → ℕ → ℕ → Type 0
Often r n m = (r ≤ 3) × (r * m ≤ n) × (n < 4 * m → n < r * m + m)

-- a is 1 if m is at most n, otherwise 0
abbrev Fits : ℕ → ℕ → ℕ → Type 0
Fits a m n = (a ≤ 1) × (m ≤ n → a ≡ 1) × (n < m → a ≡ 0)

pub counted : (n m a b c : ℕ) → Fits a m n → Fits b (m + m) n → Fits c (m + m + m) n → Often (a + b + c) n m
counted n m a b c f g h = go (dec_le m n) (dec_le (m + m) n) (dec_le (m + m + m) n)
  where
    at : (r : ℕ) → a + b + c ≡ r → Often r n m → Often (a + b + c) n m
    at r e o = subst (λ (r : ℕ). Often r n m) (sym e) o

    go : Dec (m ≤ n) → Dec (m + m ≤ n) → Dec (m + m + m ≤ n) → Often (a + b + c) n m
    go (yes p) (yes q) (yes r) = at 3 (omega (arith, f.1 p, g.1 q, h.1 r)) (omega arith, omega arith, λ z. omega arith)
    go (yes p) (yes q) (no r) = at 2 (omega (arith, f.1 p, g.1 q, h.2 (omega arith))) (omega arith, omega arith, λ z. omega arith)
    go (yes p) (no q) (yes r) = absurd (omega arith)
    go (yes p) (no q) (no r) = at 1 (omega (arith, f.1 p, g.2 (omega arith), h.2 (omega arith))) (omega arith, omega arith, λ z. omega arith)
    go (no p) (yes q) r = absurd (omega arith)
    go (no p) (no q) (yes r) = absurd (omega arith)
    go (no p) (no q) (no r) = at 0 (omega (arith, f.2 (omega arith), g.2 (omega arith), h.2 (omega arith))) (omega arith, omega arith, λ z. omega arith)

fourfold : (a b p : ℕ) → (4 * a + b) * p ≡ a * (4 * p) + b * p
fourfold a b p = add-mul (4 * a) b p ∙ ap (λ (m : ℕ). m + b * p) (ap (λ (m : ℕ). m * p) (mul_comm 4 a) ∙ mul_assoc a 4 p)

-- four of p at a time, then one
pub parted : (n p a b : ℕ) → n < 10 * p → Often a n (4 * p) → Often b (n - a * (4 * p)) p → (4 * a + b ≡ n / p) × (n - a * (4 * p) - b * p ≡ n % p) × (4 * a + b < 10)
parted n p a b h f g =
    let q : ℕ = a * (4 * p) in
    let e₀ : (4 * a + b) * p ≡ q + b * p = fourfold a b p in
    let u : n < q + 4 * p = f.2 (omega arith) in
    let v : n - q < b * p + p = g.2 (omega arith) in
    let i : q ≤ n = f.1 in
    let j : b * p ≤ n - q = g.1 in
    let e : n - q - b * p + (4 * a + b) * p ≡ n = omega arith in
    let l : n - q - b * p < p = omega arith in
    (quotient n p (4 * a + b) (n - q - b * p) e l, remainder n p (4 * a + b) (n - q - b * p) e l, small (4 * a + b) p n (omega arith) h)

pub pow_pos : (k : ℕ) → 0 < 10 ^ k
pow_pos k = one-le-pow k 10 (omega arith)

-- the first digit of k + 1, and what is left
pub digit_lt : (k n : ℕ) → n < 10 ^ suc k → n / 10 ^ k < 10
digit_lt k n h = (div-lt_iff_lt-mul (pow_pos k)).1 (omega (arith, pow-suc 10 k))

pub rest_lt : (k n : ℕ) → n % 10 ^ k < 10 ^ k
rest_lt k n = mod-lt n (pow_pos k)

-- ---- k digits

pub length-digits_of : (k n : ℕ) → length (digits_of k n) ≡ k
unfolding digits_of
length-digits_of zero n = refl
length-digits_of (suc k) n = ap suc (length-digits_of k (n % 10 ^ k))

is_digit_lem : (d : ℕ) → d < 10 → is_digit (48 + d) ≡ true
is_digit_lem d h = rw (le-leb 48 (48 + d) (omega arith), le-leb (48 + d) 57 (omega arith))

pub digits_of-digits : (k n : ℕ) → n < 10 ^ k → all_digits (digits_of k n) ≡ true
unfolding digits_of all_digits
digits_of-digits zero n h = refl
digits_of-digits (suc k) n h = rw (is_digit_lem (n / 10 ^ k) (digit_lt k n h)) (digits_of-digits k (n % 10 ^ k) (rest_lt k n))

regroup : (v q p r n : ℕ) → q * p + r ≡ n → (v * 10 + q) * p + r ≡ v * (p * 10) + n
regroup v q p r n e =
    let a : (v * 10 + q) * p ≡ v * 10 * p + q * p = add-mul (v * 10) q p in
    let b : v * 10 * p ≡ v * (p * 10) = mul_assoc v 10 p ∙ ap (λ (m : ℕ). v * m) (mul_comm 10 p) in
    omega arith

pub value-digits_of : (k n v : ℕ) → n < 10 ^ k → value_after v (digits_of k n) ≡ v * 10 ^ k + n
unfolding digits_of value_after
value-digits_of zero n v h = omega (arith, pow-zero 10)
value-digits_of (suc k) n v h =
    let e : 48 + n / 10 ^ k - 48 ≡ n / 10 ^ k = omega arith in
    ap (λ (d : ℕ). value_after (v * 10 + d) (digits_of k (n % 10 ^ k))) e
    ∙ value-digits_of k (n % 10 ^ k) (v * 10 + n / 10 ^ k) (rest_lt k n)
    ∙ regroup v (n / 10 ^ k) (10 ^ k) (n % 10 ^ k) n (div-add-mod' n (10 ^ k))
    ∙ ap (λ (m : ℕ). v * m + n) (sym (pow-suc 10 k))

-- ---- the number of digits

from-width : (m k n : ℕ) → k ≤ m → n < 10 ^ suc k → (0 < k → 10 ^ k ≤ n) → decimal_from m n ≡ digits_of (suc k) n
unfolding decimal_from
from-width zero k n h l w = let e : 0 ≡ k = omega arith in ap (λ (j : ℕ). digits_of (suc j) n) e
from-width (suc m) k n h l w = go (dec_le k m) (from-width m k n)
  where
    go : Dec (k ≤ m) → (k ≤ m → n < 10 ^ suc k → (0 < k → 10 ^ k ≤ n) → decimal_from m n ≡ digits_of (suc k) n) → cond (ltb n (10 ^ suc m)) (decimal_from m n) (digits_of (suc (suc m)) n) ≡ digits_of (suc k) n
    go (yes q) ih =
        let p : 10 ^ suc k ≤ 10 ^ suc m = pow-le-pow_right {n = 10} (omega arith) {i = suc k} {j = suc m} (omega arith) in
        rw (lt-ltb n (10 ^ suc m) (omega arith)) (ih q l w)
    go (no q) ih =
        let e : suc m ≡ k = omega arith in
        let p : 10 ^ k ≤ n = w (omega arith) in
        rw (le-ltb n (10 ^ suc m) (subst (λ (j : ℕ). 10 ^ j ≤ n) (sym e) p)) (ap (λ (j : ℕ). digits_of (suc j) n) e)

pub of_width : (k n : ℕ) → 0 < k → k ≤ 20 → n < 10 ^ k → (1 < k → 10 ^ (k - 1) ≤ n) → decimal_of n ≡ digits_of k n
unfolding decimal_of
of_width k n z h l w =
    let e : suc (k - 1) ≡ k = omega arith in
    from-width 19 (k - 1) n (omega arith) (subst (λ (j : ℕ). n < 10 ^ j) (sym e) l) (λ q. w (omega arith)) ∙ ap (λ (j : ℕ). digits_of j n) e

-- ---- what was read so far, and what is left

-- the tests of a number after v, and what it is then
abbrev pub after : ℕ → List ℕ → Option ℕ
after v l = cond (all_digits l && ltb (value_after v l) (2 ^ 64)) (Some (value_after v l)) None

value_grows : (v : ℕ) (l : List ℕ) → v ≤ value_after v l
unfolding value_after
value_grows v [] = omega arith
value_grows v (b ∷ l) = omega (arith, value_grows (v * 10 + (b - 48)) l)

too_much : (v : ℕ) (l : List ℕ) → 2 ^ 64 ≤ v → after v l ≡ None
too_much v l h = rw (le-ltb (value_after v l) (2 ^ 64) (omega (arith, value_grows v l)), and-false (all_digits l))

pub read-after : (v : ℕ) (l : List ℕ) → v < 2 ^ 64 → read_after v l ≡ after v l
unfolding read_after all_digits value_after
read-after v [] h = rw (lt-ltb v (2 ^ 64) h)
read-after v (b ∷ l) h = go (is_digit b) (ltb w (2 ^ 64)) refl (read-after w l)
  where
    w : ℕ
    w = v * 10 + (b - 48)

    go : (d t : Bool) → ltb w (2 ^ 64) ≡ t → (w < 2 ^ 64 → read_after w l ≡ after w l) → cond (d && t) (read_after w l) None ≡ cond ((d && all_digits l) && ltb (value_after w l) (2 ^ 64)) (Some (value_after w l)) None
    go false t e ih = refl
    go true true e ih = ih (ltb-true w (2 ^ 64) e)
    go true false e ih = sym (too_much w l (omega (arith, borrow.Author.Tests.ltb-false w (2 ^ 64) e)))

step-on : (t : Bool) (w n : ℕ) (l : List ℕ) → cond t (Some w) None ≡ Some n → cond t (read_after w l) None ≡ read_after n l
step-on true w n l e = let q : w ≡ n = cc in ap (λ (m : ℕ). read_after m l) q
step-on false w n l e = let z : ◌≡◌ {A = ℕ} 0 1 = cc in absurd (omega arith)

step-out : (t : Bool) (w : ℕ) (l : List ℕ) → cond t (Some w) None ≡ None → cond t (read_after w l) None ≡ None
step-out true w l e = let z : ◌≡◌ {A = ℕ} 0 1 = cc in absurd (omega arith)
step-out false w l e = refl

pub read-on : (v n i : ℕ) (s : List ℕ) → i < length s → more_of v (get_or s i 0) ≡ Some n → read_after v (drop i s) ≡ read_after n (drop (i + 1) s)
unfolding more_of read_after
read-on v n i s h e =
    ap (read_after v) (drop-cons s i 0 h)
    ∙ step-on (is_digit (get_or s i 0) && ltb (v * 10 + (get_or s i 0 - 48)) (2 ^ 64)) (v * 10 + (get_or s i 0 - 48)) n (drop (suc i) s) e
    ∙ ap (λ (k : ℕ). read_after n (drop k s)) (sym (add-one i))

pub read_out : (v i : ℕ) (s : List ℕ) → i < length s → more_of v (get_or s i 0) ≡ None → read_after v (drop i s) ≡ None
unfolding more_of read_after
read_out v i s h e =
    ap (read_after v) (drop-cons s i 0 h)
    ∙ step-out (is_digit (get_or s i 0) && ltb (v * 10 + (get_or s i 0 - 48)) (2 ^ 64)) (v * 10 + (get_or s i 0 - 48)) (drop (suc i) s) e

pub read-end : (v i : ℕ) (s : List ℕ) → length s ≤ i → read_after v (drop i s) ≡ Some v
unfolding read_after
read-end v i s h = ap (read_after v) (drop_of_length-le s h)

-- ---- the strict reader

pub number-none : (s : List ℕ) → length s ≡ 0 → number_of s ≡ None
unfolding number_of
number-none [] h = refl
number-none (b ∷ s) h = absurd (omega arith)

pub number-zero : (s : List ℕ) → 1 < length s → get_or s 0 0 ≡ 48 → number_of s ≡ None
unfolding number_of
number-zero [] h e = absurd (omega arith)
number-zero (b ∷ []) h e = absurd (omega arith)
number-zero (b ∷ c ∷ s) h e = rw (eq-eqb b 48 e)

pub starts : (s : List ℕ) → 0 < length s → (1 < length s → get_or s 0 0 ≡ 48 → ⊥) → starts_well s ≡ true
starts [] h n = absurd (omega arith)
starts (b ∷ []) h n = refl
starts (b ∷ c ∷ s) h n = rw (ne_eqb b 48 (n (omega arith)))

pub number_read : (s : List ℕ) → 0 < length s → (1 < length s → get_or s 0 0 ≡ 48 → ⊥) → number_of s ≡ read_after 0 s
unfolding number_of
number_read s h n = rw (starts s h n) (sym (read-after 0 s (omega arith)))

-- ---- a digit more, for a loop that writes them

pub digit-next : (d : List ℕ) (j m rest : ℕ) → drop j d ≡ digits_of (suc m) rest → get_or d j 0 ≡ 48 + rest / 10 ^ m
unfolding digits_of
digit-next d j m rest e = ap (λ (k : ℕ). get_or d k 0) (sym (add-zero j)) ∙ sym (get_or-drop j d 0 0) ∙ ap (λ (l : List ℕ). get_or l 0 0) e

pub digits-left : (d : List ℕ) (j m rest : ℕ) → drop j d ≡ digits_of (suc m) rest → drop (j + 1) d ≡ digits_of m (rest % 10 ^ m)
unfolding digits_of
digits-left d j m rest e = sym (drop-drop 1 j d) ∙ ap (drop 1) e

pub below : (n k : ℕ) → n < 2 ^ 64 → 20 ≤ k → n < 10 ^ k
below n k h l = omega (arith, pow-le-pow_right {n = 10} (omega arith) {i = 20} {j = k} l)

-- the loop that writes the digits d: m + 1 are to come, of rest
pub put_next : (o d : List ℕ) (at i m rest : ℕ) → i < length d → at + length d ≤ length o → drop i d ≡ digits_of (suc m) rest
    → set (paste o at d i) (at + i) (48 + rest / 10 ^ m) ≡ paste o at d (i + 1)
put_next o d at i m rest h l q =
    ap (λ (b : ℕ). set (paste o at d i) (at + i) b) (sym (digit-next d i m rest q))
    ∙ paste-suc o at d i 0 (omega arith) h
    ∙ ap (λ (n : ℕ). paste o at d n) (sym (add-one i))

pub times_ten : (rest m p : ℕ) → rest < 10 ^ suc m → p ≡ 10 ^ m → rest < 10 * p
times_ten rest m p h e = omega (arith, pow-suc 10 m)

pub small_power : (m p : ℕ) → m < 19 → p ≡ 10 ^ m → p ≤ 10 ^ 18
small_power m p h e = omega (arith, pow-le-pow_right {n = 10} (omega arith) {i = m} {j = 18} (omega arith))

-- a number of k + 1 digits that begins with a 1
pub leading-one : (k n : ℕ) → 10 ^ k ≤ n → n < 2 * 10 ^ k → digits_of (suc k) n ≡ 49 ∷ digits_of k (n - 10 ^ k)
unfolding digits_of
leading-one k n l h =
    let e : n - 10 ^ k + 1 * 10 ^ k ≡ n = omega arith in
    let z : n - 10 ^ k < 10 ^ k = omega arith in
    sym (ap₂ {C = List ℕ} (λ (d r : ℕ). (48 + d) ∷ digits_of k r) (quotient n (10 ^ k) 1 (n - 10 ^ k) e z) (remainder n (10 ^ k) 1 (n - 10 ^ k) e z))

pub pasted : (o d : List ℕ) (at k : ℕ) → length d ≡ k → paste o at d k ≡ splice o at d
pasted o d at k e =
    ap (λ (l : List ℕ). take at o ++ l ++ drop (at + k) o) (take_all k d (omega arith))
    ∙ ap (λ (j : ℕ). take at o ++ d ++ drop (at + j) o) (sym e)
    ∙ sym (splice_nested o at d)

-- ---- the number whole

pub wide-as : (r n : ℕ) → decimal_of n ≡ digits_of r n → length (decimal_of n) ≡ r
wide-as r n e = ap length e ∙ length-digits_of r n

-- a number of 20 digits
pub twenty : (r n : ℕ) → n < 2 ^ 64 → r ≡ 20 → decimal_of n ≡ digits_of r n → 10 ^ (r - 1) ≤ n → decimal_of n ≡ 49 ∷ digits_of 19 (n - 10 ^ 19)
twenty r n h e d l =
    let z : 10 ^ 19 ≤ n = subst (λ (j : ℕ). 10 ^ (j - 1) ≤ n) e l in
    d ∙ ap (λ (j : ℕ). digits_of j n) e ∙ leading-one 19 n z (omega arith)
