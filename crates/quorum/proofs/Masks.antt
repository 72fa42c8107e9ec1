-- Sets of numbers as masks: their ones are counted, a bit set is a member more, and bit i says whether i is in the set.
use mathlib.Core.Path.{◌≡◌, refl, sym, ap, ap₂, ◌∙◌, subst}
use mathlib.Core.Logic.{⊎_elim}
use Prim.Native.Nat.{ℕ, zero, suc, ◌+◌, ◌-◌, ◌*◌, ◌/◌, ◌%◌, ◌^◌, ◌≤◌, ◌<◌}
use native.Mathlib.Nat.{not-suc-le-zero, pow-suc, zero-mul, one-mul, add-zero, add-suc, mul_assoc, mul-add-div_right, mul-add-mod_self_right, div-lt_iff_lt-mul, div-add-mod', mod-lt, mod-eq_of_lt}
use native.Mathlib.Omega.{arith}
use mathlib.Core.Bool.{Bool, true, false, ◌&&◌, ◌||◌, cond, or-true}
pub use mathlib.Core.Bool.{or-false}
use lib.Bits.{bit_or, or_block, or_zero_r}
use lib.Count.{ones, ones_in, ones_cat}
use lib.Dec.{eqb}
use lib.Arith.{digits_div}
use lib.Pow.{pow-add, pow_pos, pow-lt}
use borrow.Author.Tests.{eq-eqb, ne_eqb}
use Rattle.octets.proofs.Tests.{and-true, and-false, equal_or_not, or_cases}
use Rattle.quorum.specs.Bits.{count_below, any_below, mask_below}
use Rattle.std.specs.Prelude.{Option, Some, None}
use Rattle.quorum.specs.Tally.{with_member, is_member_i}

top : (b : Bool) (n m : ℕ) → m < 2 ^ n → cond b 1 0 * 2 ^ n + m < 2 ^ suc n
top true n m h = omega (arith, pow-suc 2 n, one-mul (2 ^ n))
top false n m h = omega (arith, pow-suc 2 n, zero-mul (2 ^ n))

pub mask_lt : (n : ℕ) (f : ℕ → Bool) → mask_below n f < 2 ^ n
unfolding mask_below
mask_lt zero f = omega arith
mask_lt (suc n) f = top (f n) n (mask_below n f) (mask_lt n f)

ones_bit : (b : Bool) → ones (cond b 1 0) ≡ cond b 1 0
unfolding ones ones_in
ones_bit true = refl
ones_bit false = refl

-- the ones of a mask are the members
pub ones-mask : (n : ℕ) (f : ℕ → Bool) → ones (mask_below n f) ≡ count_below n f
unfolding mask_below count_below ones ones_in
ones-mask zero f = refl
ones-mask (suc n) f = ones_cat n (cond (f n) 1 0) (mask_below n f) (mask_lt n f) ∙ ap₂ (λ (a b : ℕ). a + b) (ones_bit (f n)) (ones-mask n f)

pub mask-eq : (n : ℕ) (f g : ℕ → Bool) → ((i : ℕ) → i < n → f i ≡ g i) → mask_below n f ≡ mask_below n g
unfolding mask_below
mask-eq zero f g h = refl
mask-eq (suc n) f g h = ap₂ (λ (b : Bool) (m : ℕ). cond b 1 0 * 2 ^ n + m) (h n (omega arith)) (mask-eq n f g (λ i k. h i (omega arith)))

pub count-eq : (n : ℕ) (f g : ℕ → Bool) → ((i : ℕ) → i < n → f i ≡ g i) → count_below n f ≡ count_below n g
count-eq n f g h = sym (ones-mask n f) ∙ ap ones (mask-eq n f g h) ∙ ones-mask n g

bit-set : (b : Bool) → bit_or (cond b 1 0) 1 ≡ 1
bit-set true = refl
bit-set false = refl

module _ (f : ℕ → Bool) where
  -- the top bit set
  set-top : (n : ℕ) → bit_or (mask_below (suc n) f) (2 ^ n) ≡ mask_below (suc n) (λ i. f i || eqb n i)
  unfolding mask_below
  set-top n =
      let c : ℕ = cond (f n) 1 0 in
      let m : ℕ = mask_below n f in
      let p : 2 ^ n ≡ 1 * 2 ^ n + 0 = omega (arith, one-mul (2 ^ n)) in
      let g : ℕ → Bool = λ i. f i || eqb n i in
      let low : m ≡ mask_below n g = mask-eq n f g (λ i h. sym (ap (λ (b : Bool). f i || b) (ne_eqb n i (λ e. omega arith)) ∙ or-false (f i))) in
      let hi : g n ≡ true = ap (λ (b : Bool). f n || b) (eq-eqb n n refl) ∙ or-true (f n) in
      ap (λ (x : ℕ). bit_or (c * 2 ^ n + m) x) p
      ∙ or_block n c 1 m 0 (mask_lt n f) (pow_pos n)
      ∙ ap₂ (λ (x y : ℕ). x * 2 ^ n + y) (bit-set (f n)) (or_zero_r m ∙ low)
      ∙ ap (λ (b : Bool). cond b 1 0 * 2 ^ n + mask_below n g) (sym hi)

  -- a bit below the top set
  set-low : (n k : ℕ) → k < n → bit_or (mask_below n f) (2 ^ k) ≡ mask_below n (λ i. f i || eqb k i)
      → bit_or (mask_below (suc n) f) (2 ^ k) ≡ mask_below (suc n) (λ i. f i || eqb k i)
  unfolding mask_below
  set-low n k h r =
      let c : ℕ = cond (f n) 1 0 in
      let m : ℕ = mask_below n f in
      let p : 2 ^ k ≡ 0 * 2 ^ n + 2 ^ k = omega (arith, zero-mul (2 ^ n)) in
      let g : ℕ → Bool = λ i. f i || eqb k i in
      let hi : g n ≡ f n = ap (λ (b : Bool). f n || b) (ne_eqb k n (λ e. omega arith)) ∙ or-false (f n) in
      ap (λ (x : ℕ). bit_or (c * 2 ^ n + m) x) p
      ∙ or_block n c 0 m (2 ^ k) (mask_lt n f) (pow-lt h)
      ∙ ap₂ (λ (x y : ℕ). x * 2 ^ n + y) (or_zero_r c) r
      ∙ ap (λ (b : Bool). cond b 1 0 * 2 ^ n + mask_below n g) (sym hi)

  -- a bit set is a member more
  pub mask-set : (n k : ℕ) → k < n → bit_or (mask_below n f) (2 ^ k) ≡ mask_below n (λ i. f i || eqb k i)
  mask-set zero k h = absurd (not-suc-le-zero h)
  mask-set (suc n) k h =
      ⊎_elim (λ (e : k ≡ n). subst (λ (j : ℕ). bit_or (mask_below (suc n) f) (2 ^ j) ≡ mask_below (suc n) (λ i. f i || eqb j i)) (sym e) (set-top n))
      (λ e. set-low n k (omega arith) (mask-set n k (omega arith))) (equal_or_not k n)

  -- a place's receipt taken into the mask
  pub mask-with : (n : ℕ) (m : Option ℕ) (b : Bool) → ((i : ℕ) → m ≡ Some i → i < n) → with_member (mask_below n f) m b ≡ mask_below n (λ i. f i || (is_member_i m i && b))
  unfolding with_member is_member_i
  mask-with n None b h = mask-eq n f (λ i. f i || false) (λ i k. sym (or-false (f i)))
  mask-with n (Some j) true h = mask-set n j (h j refl) ∙ mask-eq n (λ i. f i || eqb j i) (λ i. f i || (eqb j i && true)) (λ i k. ap (λ (x : Bool). f i || x) (sym (and-true (eqb j i))))
  mask-with n (Some j) false h = mask-eq n f (λ i. f i || (eqb j i && false)) (λ i k. sym (ap (λ (x : Bool). f i || x) (and-false (eqb j i)) ∙ or-false (f i)))

-- what is not below n does not count
pub mask-more : (n d : ℕ) (f : ℕ → Bool) → ((i : ℕ) → n ≤ i → f i ≡ false) → mask_below (n + d) f ≡ mask_below n f
unfolding mask_below
mask-more n zero f h = ap (λ (k : ℕ). mask_below k f) (add-zero n)
mask-more n (suc d) f h =
    ap (λ (k : ℕ). mask_below k f) (add-suc n d)
    ∙ ap (λ (b : Bool). cond b 1 0 * 2 ^ (n + d) + mask_below (n + d) f) (h (n + d) (omega arith))
    ∙ omega (arith, zero-mul (2 ^ (n + d)), mask-more n d f h)

-- bit i of a mask
low_bit : (b : Bool) (n i m : ℕ) → i < n → (cond b 1 0 * 2 ^ n + m) / 2 ^ i % 2 ≡ m / 2 ^ i % 2
low_bit b n i m h =
    let d : ℕ = n - suc i in
    let z : n ≡ suc d + i = omega arith in
    let e : 2 ^ n ≡ 2 ^ d * 2 * 2 ^ i = ap (λ (k : ℕ). 2 ^ k) z ∙ pow-add 2 (suc d) i ∙ ap (λ (k : ℕ). k * 2 ^ i) (pow-suc 2 d) in
    let c : ℕ = cond b 1 0 in
    let g : c * 2 ^ n + m ≡ c * 2 ^ d * 2 * 2 ^ i + m = ap (λ (k : ℕ). c * k + m) e ∙ ap (λ (k : ℕ). k + m) (sym (mul_assoc c (2 ^ d * 2) (2 ^ i)) ∙ ap (λ (k : ℕ). k * 2 ^ i) (sym (mul_assoc c (2 ^ d) 2))) in
    ap (λ (k : ℕ). k / 2 ^ i % 2) g ∙ ap (λ (k : ℕ). k % 2) (mul-add-div_right (pow_pos i) (c * 2 ^ d * 2) m) ∙ mul-add-mod_self_right (c * 2 ^ d) 2 (m / 2 ^ i)

top_bit : (b : Bool) (n m : ℕ) → m < 2 ^ n → (cond b 1 0 * 2 ^ n + m) / 2 ^ n % 2 ≡ cond b 1 0
top_bit b n m h = ap (λ (k : ℕ). k % 2) (digits_div (cond b 1 0) h) ∙ small b
  where
    small : (b : Bool) → cond b 1 0 % 2 ≡ cond b 1 0
    small true = refl
    small false = refl

pub mask-bit : (n : ℕ) (f : ℕ → Bool) (i : ℕ) → i < n → mask_below n f / 2 ^ i % 2 ≡ cond (f i) 1 0
unfolding mask_below
mask-bit zero f i h = absurd (not-suc-le-zero h)
mask-bit (suc n) f i h =
    ⊎_elim (λ (e : i ≡ n). ap (λ (k : ℕ). (cond (f n) 1 0 * 2 ^ n + mask_below n f) / 2 ^ k % 2) e ∙ top_bit (f n) n (mask_below n f) (mask_lt n f) ∙ ap (λ (k : ℕ). cond (f k) 1 0) (sym e))
    (λ e. low_bit (f n) n i (mask_below n f) (omega arith) ∙ mask-bit n f i (omega arith)) (equal_or_not i n)

-- a mask is determined by its bits
pub mask-by-bits : (n : ℕ) (f : ℕ → Bool) (m : ℕ) → m < 2 ^ n → ((i : ℕ) → i < n → m / 2 ^ i % 2 ≡ cond (f i) 1 0) → m ≡ mask_below n f
unfolding mask_below
mask-by-bits zero f m h k = omega arith
mask-by-bits (suc n) f m h k =
    let r : ℕ = m % 2 ^ n in
    let t : m / 2 ^ n < 2 = (div-lt_iff_lt-mul (pow_pos n)).1 (omega (arith, pow-suc 2 n)) in
    let b : m / 2 ^ n ≡ cond (f n) 1 0 = sym (mod-eq_of_lt t) ∙ k n (omega arith) in
    let s : m ≡ cond (f n) 1 0 * 2 ^ n + r = sym (div-add-mod' m (2 ^ n)) ∙ ap (λ (x : ℕ). x * 2 ^ n + r) b in
    let low : (i : ℕ) → i < n → r / 2 ^ i % 2 ≡ cond (f i) 1 0 =
    λ i l. sym (low_bit (f n) n i r l) ∙ ap (λ (x : ℕ). x / 2 ^ i % 2) (sym s) ∙ k i (omega arith) in
    s ∙ ap (λ (x : ℕ). cond (f n) 1 0 * 2 ^ n + x) (mask-by-bits n f r (mod-lt m (pow_pos n)) low)

-- whether there is one
pub any-eq : (n : ℕ) (f g : ℕ → Bool) → ((i : ℕ) → i < n → f i ≡ g i) → any_below n f ≡ any_below n g
unfolding any_below
any-eq zero f g h = refl
any-eq (suc n) f g h = ap₂ (λ (a b : Bool). a || b) (h n (omega arith)) (any-eq n f g (λ i k. h i (omega arith)))

pub any_none : (n : ℕ) → any_below n (λ i. false) ≡ false
unfolding any_below
any_none zero = refl
any_none (suc n) = any_none n

pub any_at : (n : ℕ) (f : ℕ → Bool) (i : ℕ) → i < n → f i ≡ true → any_below n f ≡ true
unfolding any_below
any_at zero f i h e = absurd (not-suc-le-zero h)
any_at (suc n) f i h e =
    ⊎_elim (λ (z : i ≡ n). ap (λ (b : Bool). b || any_below n f) (ap f (sym z) ∙ e))
    (λ z. ap (λ (b : Bool). f n || b) (any_at n f i (omega arith) e) ∙ or-true (f n)) (equal_or_not i n)

pub any_some : (n : ℕ) (f : ℕ → Bool) → any_below n f ≡ true → (i : ℕ) × (i < n) × (f i ≡ true)
unfolding any_below
any_some zero f h = let z : ◌≡◌ {A = ℕ} 0 1 = cc in absurd (omega arith)
any_some (suc n) f h =
    ⊎_elim (λ (e : f n ≡ true). (n, omega arith, e)) (λ e. let r = any_some n f e in (r.0, omega (arith, r.1), r.2)) (or_cases (f n) (any_below n f) h)
