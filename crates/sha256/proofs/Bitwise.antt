-- Two bitwise operations on three words are equal if they are on bits.
--
use mathlib.Core.Path.{◌≡◌, sym, ap₂, ◌∙◌}
use Prim.Native.Nat.{ℕ, zero, suc, ◌+◌, ◌*◌, ◌/◌, ◌%◌, ◌^◌, ◌<◌}
use native.Mathlib.Nat.{not-suc-le-zero, le_of_suc-le-suc}
use native.Mathlib.Omega.{arith}

-- what holds of 0 and of 1 holds of a bit
bit : (P : ℕ → Type 0) → P 0 → P 1 → (a : ℕ) → a < 2 → P a
bit P p q zero h = p
bit P p q (suc zero) h = q
bit P p q (suc (suc a)) h = absurd (not-suc-le-zero (le_of_suc-le-suc (le_of_suc-le-suc h)))

-- what holds of the eight triples of bits
abbrev pub Eight : (ℕ → ℕ → ℕ → Type 0) → Type 0
Eight P = P 0 0 0 × P 0 0 1 × P 0 1 0 × P 0 1 1 × P 1 0 0 × P 1 0 1 × P 1 1 0 × P 1 1 1

pub triples : (P : ℕ → ℕ → ℕ → Type 0) → Eight P → (a b c : ℕ) → a < 2 → b < 2 → c < 2 → P a b c
triples P (p0, p1, p2, p3, p4, p5, p6, p7) a b c ha hb hc =
    bit (λ (a : ℕ). P a b c)
    (bit (λ (b : ℕ). P 0 b c) (bit (P 0 0) p0 p1 c hc) (bit (P 0 1) p2 p3 c hc) b hb)
    (bit (λ (b : ℕ). P 1 b c) (bit (P 1 0) p4 p5 c hc) (bit (P 1 1) p6 p7 c hc) b hb) a ha

-- a word's halves make it, bit by bit
abbrev pub Stepwise : (ℕ → ℕ → ℕ → ℕ) → Type 0
Stepwise f = (x y z : ℕ) → f x y z ≡ f (x / 2) (y / 2) (z / 2) * 2 + f (x % 2) (y % 2) (z % 2)

abbrev pub OnBits : (f g : ℕ → ℕ → ℕ → ℕ) → Type 0
OnBits f g = (a b c : ℕ) → a < 2 → b < 2 → c < 2 → f a b c ≡ g a b c

pub agree : (f g : ℕ → ℕ → ℕ → ℕ) → Stepwise f → Stepwise g → OnBits f g
    → (k x y z : ℕ) → x < 2 ^ k → y < 2 ^ k → z < 2 ^ k → f x y z ≡ g x y z
agree f g sf sg e zero x y z hx hy hz = e x y z (omega arith) (omega arith) (omega arith)
agree f g sf sg e (suc k) x y z hx hy hz =
    sf x y z
    ∙ ap₂ (λ (q r : ℕ). q * 2 + r)
    (agree f g sf sg e k (x / 2) (y / 2) (z / 2) (omega arith) (omega arith) (omega arith))
    (e (x % 2) (y % 2) (z % 2) (omega arith) (omega arith) (omega arith))
    ∙ sym (sg x y z)
